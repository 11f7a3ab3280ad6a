-- The law of parts: what other crates cite.
pub use Rattle.laws_names.proofs.inside.Parted.{mended_has_parts}
