pub mod Lines
pub mod Moves
pub mod Turns
pub mod Tallies
pub mod Meanings
pub mod Maps
pub mod Descriptor
pub mod Format
