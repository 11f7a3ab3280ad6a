pub mod Rooms
pub mod Step
pub mod PageWords
pub mod Commands
pub mod Entering
pub mod Operations
pub mod Committing
pub mod Puts
