-- The laws of hints: what other crates cite.
pub use Rattle.laws_record.proofs.inside.HintBytes.{hints_mean_nothing}
pub use Rattle.laws_record.proofs.inside.HintValues.{value_with_other_hints}
