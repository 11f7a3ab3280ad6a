pub mod Bits
pub mod Caches
pub mod Highest
pub mod Words
