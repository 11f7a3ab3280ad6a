-- The laws of handy hints: what other crates cite.
pub use Rattle.laws_hint.proofs.inside.HandyStaying.{handy_after_leader_value, handy_after_values, handy_where_pages_come, handy_where_pages_stay_or_go}
pub use Rattle.laws_hint.proofs.inside.HandyOperations.{handy_after_cut, handy_after_growth, handy_after_widening, handy_of_others}
