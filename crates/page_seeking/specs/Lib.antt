pub mod Refs
pub mod Inside
pub mod Seeking
pub mod Causes
pub mod Parts
