pub mod Bases
pub mod Cuts
pub mod LastGap
