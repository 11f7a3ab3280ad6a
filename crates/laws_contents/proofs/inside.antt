pub mod Counted
pub mod Ends
pub mod Full
pub mod Modelled
pub mod Parts
pub mod Slices
pub mod WholeFiles
pub mod Words
