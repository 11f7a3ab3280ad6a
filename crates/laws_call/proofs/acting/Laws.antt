-- The laws of each operation as a whole: what other crates cite.
pub use Rattle.laws_call.proofs.inside.Acting.{acts_of_each_operation}
