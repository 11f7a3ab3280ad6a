pub mod Causes
pub mod Guarded
pub mod Steps
