pub mod Each
pub mod FilesPages
pub mod Found
pub mod FreeRoom
pub mod NextLacking
pub mod SoundPacks
pub mod Standing
pub mod Stepping
pub mod SystemFiles
mod inside
