-- The laws of true hints from opening to closing: what other crates cite.
pub use Rattle.laws_hint.proofs.inside.Truths.{truth_at_closing, truth_at_opening, truth_goes_on}
