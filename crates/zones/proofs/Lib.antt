pub mod Allocating
pub mod Checking
pub mod Keeping
pub mod Parts
pub mod Returning
pub mod Taken
pub mod Walks
