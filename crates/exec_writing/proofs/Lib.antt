pub mod AddedFile
pub mod Adding
mod Appended
mod Appending
mod Causing
pub mod CopyLine
pub mod Copying
mod Cutting
mod DropAnswers
mod DropFinding
mod DropReasons
mod DropTurn
pub mod Ends
mod EntryFound
mod Handing
pub mod Leaving
mod Lengths
mod Looked
pub mod NamedEntries
pub mod NewPlaces
pub mod NewSectors
mod OneDrop
mod Opening
mod OrdinaryReasons
mod Patching
mod Putting
mod Quickly
pub mod Reasons
pub mod Refusing
pub mod RenameLine
pub mod Renaming
pub mod Required
mod Reserved
pub mod Sorts
mod Stamping
mod Streamed
mod Touching
mod Turns
pub mod Writing
