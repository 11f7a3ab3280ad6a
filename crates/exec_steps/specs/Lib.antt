pub mod Rooms
pub mod Midway
pub mod Steps
pub mod Several
pub mod Streamed
pub mod Lines
pub mod Asked
