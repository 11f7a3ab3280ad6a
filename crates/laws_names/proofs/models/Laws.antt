-- The laws of models: what other crates cite.
pub use Rattle.laws_names.proofs.inside.Models.{all_kept_is_tidy, mended_is_read, mended_lives, tidy_mended_is_read}
pub use Rattle.laws_names.proofs.inside.Scanned.{mended_slot, mended_slots}
