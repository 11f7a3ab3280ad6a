-- The laws of calls by their guarded commands: what other crates cite.
pub use Rattle.laws_guard.proofs.inside.Guarding.{guarded_call_operates, guarded_call_releases, look_before_operates, next_part}
pub use Rattle.laws_guard.proofs.inside.Guards.{guarded_writes}
