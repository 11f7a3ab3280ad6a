pub mod Fresh
pub use Rattle.zones
pub use Rattle.junta_levels
