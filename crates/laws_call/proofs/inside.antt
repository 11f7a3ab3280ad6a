pub mod Acting
pub mod Counting
pub mod Going
pub mod Knowing
pub mod Several
pub mod SoundCalls
pub mod Writing
