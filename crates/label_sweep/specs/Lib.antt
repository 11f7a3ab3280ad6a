pub mod Shown
pub mod Swept
pub use Rattle.pack_laws
