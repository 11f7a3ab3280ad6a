pub mod Alone
pub mod Block
pub use Rattle.zones
pub use Rattle.junta_levels
pub use Rattle.world_swap
pub use Rattle.exec_session
