-- The laws of files that were found: what other crates cite.
pub use Rattle.laws_steps.proofs.inside.Descriptor.{descriptor_keeps_found, opening_keeps_found, serial_keeps_found}
pub use Rattle.laws_steps.proofs.inside.Keeping.{written_keeps_found}
