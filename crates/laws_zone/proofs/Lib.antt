pub mod Cutting
pub mod Joining
pub mod Rows
pub mod Sizes
pub mod Taking
pub mod Walking
mod inside
