pub mod Cuts
pub use Rattle.zones
