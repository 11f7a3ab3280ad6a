-- The laws of dropping: what other crates cite.
pub use Rattle.laws_lookup.proofs.inside.Bare.{bare_file_may_be_dropped, drop_is_of_these_sectors, empty_directory_is_bare, ordinary_file_is_bare}
