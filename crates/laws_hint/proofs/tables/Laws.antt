-- The laws of the table in memory: what other crates cite.
pub use Rattle.laws_hint.proofs.inside.Reserving.{operations_use_the_table, reserved_in_any_order, reserving_keeps_the_table, table_without_reserved}
