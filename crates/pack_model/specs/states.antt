pub mod Whole
pub mod Sentences
pub mod Sound
pub mod InUse
