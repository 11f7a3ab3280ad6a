-- The laws of puts: what other crates cite.
pub use Rattle.pack_laws.proofs.Putting.{value_write_is_the_put}
