-- The laws of entries: what other crates cite.
pub use Rattle.laws_record.proofs.Entering.{entry_is_the_step}
pub use Rattle.laws_record.proofs.inside.NextName.{next_name_that_settling_gives}
