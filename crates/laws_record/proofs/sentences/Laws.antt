-- The laws of sentences: what other crates cite.
pub use Rattle.laws_record.proofs.AllSectors.{sentences_hold}
pub use Rattle.laws_record.proofs.inside.LyingFiles.{by_sentences}
