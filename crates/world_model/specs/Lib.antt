pub mod Zones
pub mod ZoneWords
pub mod Levels
pub mod StateFiles
pub use Rattle.disk_records
