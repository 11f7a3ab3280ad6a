pub mod View
pub mod Settling
pub mod Listing
