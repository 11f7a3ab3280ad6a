pub mod Calling
pub mod Counting
mod Entries
pub mod Frames
mod Grown
pub mod Joining
mod Lining
mod MarkOpening
mod NewFile
mod NewSerials
mod NextFile
mod Premises
mod RoomPlanning
pub mod SectorTaking
mod Several
pub mod StepAnswers
pub mod Stepping
mod Streamed
mod Widened
