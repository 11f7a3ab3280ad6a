-- The laws of names: what other crates cite.
pub use Rattle.pack_laws.proofs.inside.OldPacks.{old_packs}
pub use Rattle.pack_laws.proofs.OwnRule.{own_rule}
