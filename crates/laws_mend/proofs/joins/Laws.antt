-- The laws of joins: what other crates cite.
pub use Rattle.laws_mend.proofs.inside.Joining.{nothing_tends, tending_ends, tends_breaks_off, tends_join, tends_on}
