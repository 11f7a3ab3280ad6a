-- The laws of calls one after another: what other crates cite.
pub use Rattle.laws_session.proofs.inside.Calling.{calls_keep, calls_keep_need, hints_stay_true, sessions_end_with_true_hints, true_hints_fail_no_call}
pub use Rattle.laws_session.proofs.inside.Filling.{refusals_name_no_hint}
pub use Rattle.laws_session.proofs.inside.Naming.{answers_name_a_failed_hint}
