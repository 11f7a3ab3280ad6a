mod Matching
mod Guarding
mod Freeing
pub mod Framing
