pub mod Homes
pub mod Orders
pub mod Passed
