pub mod Check
pub mod Gaps
pub mod Giving
pub mod Keeping
pub mod Taking
pub use Rattle.laws_zone.specs.disk_records
pub use Rattle.laws_zone.specs.world_model
pub use Rattle.laws_zone
