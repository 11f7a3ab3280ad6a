-- The laws of histories: what other crates cite.
pub use Rattle.laws_session.proofs.inside.Talking.{crashes_of_a_history, histories_are_shown, histories_are_turns, tally_of_a_history}
pub use Rattle.laws_session.proofs.inside.Ruling.{crashes_show_the_ruled_model, settled_once_is_settled}
