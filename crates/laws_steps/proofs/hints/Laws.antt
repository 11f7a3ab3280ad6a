-- The laws of hints in a line: what other crates cite.
pub use Rattle.laws_steps.proofs.inside.Hinting.{no_hint_means_an_absent_file, one_later_answer_misled_before, one_later_misled_before, released_answer_misled_before, released_others_misled_before}
