pub mod Faults
pub mod Orders
pub mod Looking
pub mod Showing
pub mod Formats
pub mod Scavenging
pub mod Top
