mod Asking
pub mod Looking
pub mod Rows
pub mod Words
mod Displayed
mod Flushed
mod Framing
mod Formatted
mod Scavenged
pub mod Lengths
