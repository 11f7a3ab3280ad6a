pub mod Boots
pub mod Faults
pub mod Keys
pub mod Opening
pub mod Turns
pub use Rattle.executive.specs.pack_laws
