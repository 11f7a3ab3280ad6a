pub mod Answers
pub mod Causes
pub mod Formatting
pub mod Fields
pub mod Opening
pub mod Reading
pub mod Writing
