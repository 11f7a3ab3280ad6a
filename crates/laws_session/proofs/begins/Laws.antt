-- The laws of beginning: what other crates cite.
pub use Rattle.laws_session.proofs.inside.Beginning.{fresh_memory_is_kept, sessions_begin}
pub use Rattle.laws_session.proofs.inside.Opening.{sound_packs_are_ready}
