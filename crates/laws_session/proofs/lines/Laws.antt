-- The laws of lines as answers: what other crates cite.
pub use Rattle.laws_session.proofs.inside.Lining.{broken_lines_answer, ends_in_need_answer, ends_on_a_sound_pack_answer, lines_on_a_sound_pack_answer, prefixes_answer, silent_lines_answer}
