mod Showing
mod Sweeping
pub mod Visiting
