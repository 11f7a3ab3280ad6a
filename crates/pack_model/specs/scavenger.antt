pub mod Mended
pub mod Needed
pub mod Scavenging
pub mod Reports
