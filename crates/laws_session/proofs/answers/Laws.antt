-- The laws of answers as turns: what other crates cite.
pub use Rattle.laws_session.proofs.inside.Answering.{answers_are_turns, call_breaks_off, text_breaks_off, text_makes_a_turn}
