pub mod Crowded
pub mod Dropping
pub mod First
pub mod Lookups
pub mod Naming
pub mod Peopled
pub mod Premises
pub mod Writings
