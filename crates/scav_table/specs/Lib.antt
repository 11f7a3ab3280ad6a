pub mod Causes
pub mod Filled
pub mod Laws
pub mod Passes
pub mod Rows
pub mod Windows
