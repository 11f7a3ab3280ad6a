-- The laws of worlds with a memory: what other crates cite.
pub use Rattle.laws_session.proofs.inside.Leaving.{lines_leave_a_memory}
pub use Rattle.laws_session.proofs.inside.Loading.{fresh_worlds_have_a_memory, kept_worlds_have_a_memory, loaded_worlds_have_a_memory, worlds_are_kept}
