-- The laws of what a history begins with, keeps and leaves: what other crates cite.
pub use Rattle.laws_session.proofs.inside.Standing.{failed_turns_keep, sessions_leave_closed, sound_packs_begin, turns_stand}
pub use Rattle.laws_session.proofs.inside.Needing.{lines_keep_need, none_fails_with_true_links}
