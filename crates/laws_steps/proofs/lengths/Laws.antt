-- The laws of lengths in a line, and of the last page that a leader names: what other crates cite.
pub use Rattle.laws_steps.proofs.inside.Lengths.{new_file_is_empty, put_keeps_the_length}
pub use Rattle.laws_steps.proofs.inside.Named.{named_page_stays}
