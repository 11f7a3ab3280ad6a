-- The laws of widening: what other crates cite.
pub use Rattle.laws_mend.proofs.inside.RootWidened.{root_widening_tends}
pub use Rattle.laws_mend.proofs.inside.WidenedParts.{widening_keeps_pages}
pub use Rattle.laws_mend.proofs.inside.WideningPlain.{widening_in_words}
pub use Rattle.laws_mend.proofs.inside.WideningWords.{growth_can_widen}
