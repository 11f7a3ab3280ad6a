pub mod Causes
pub mod Free
pub mod Inside
pub use Rattle.label_check
pub use Rattle.hint_cache
