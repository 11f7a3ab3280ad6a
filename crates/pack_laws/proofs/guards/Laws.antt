-- The laws of guards: what other crates cite.
pub use Rattle.pack_laws.proofs.inside.GuardedWrites.{claim_takes_at_the_label, relabel_keeps_the_page, release_frees_at_the_label, value_writes_keep_the_page}
