pub mod Ahead
pub mod Causing
pub mod Changing
mod Claiming
mod Copying
pub mod Counting
mod Cutting
pub mod Describing
pub mod DirectoryPass
mod DirectoryReading
pub mod Doing
mod Ending
mod EndsPass
mod Freeing
mod Fresh
mod Keeping
mod LastPages
mod Leading
mod LinkPass
mod Linking
mod Mending
mod Naming
mod Neighbours
pub mod Passing
pub mod Ranking
mod Releasing
mod Rooting
pub mod SlotReading
mod Stopping
mod Straying
mod Using
pub mod Walking
