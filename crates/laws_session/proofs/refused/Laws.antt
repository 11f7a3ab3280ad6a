-- The laws of what lines are refused for: what other crates cite.
pub use Rattle.laws_session.proofs.inside.Refusing.{refused_by_tests, refused_for_room, refused_in_order}
