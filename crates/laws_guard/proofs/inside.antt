pub mod Guarding
pub mod Guards
