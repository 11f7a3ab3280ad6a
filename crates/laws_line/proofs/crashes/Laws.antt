-- The laws of cuts: what other crates cite.
pub use Rattle.laws_line.proofs.inside.Lining.{crashes_of_a_line, crashes_of_an_unmarked_line, lines_join}
pub use Rattle.laws_line.proofs.inside.Marked.{open_pack_is_unmarked}
pub use Rattle.laws_line.proofs.inside.crashes.Cutting.{crashes_of_an_operation, crashes_of_enter}
pub use Rattle.laws_line.proofs.inside.crashes.Staying.{crashes_of_each_operation}
