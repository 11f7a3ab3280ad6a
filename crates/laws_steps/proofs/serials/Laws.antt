-- The law of a file by its serial: what other crates cite.
pub use Rattle.laws_steps.proofs.inside.Serials.{serial_is_the_models}
