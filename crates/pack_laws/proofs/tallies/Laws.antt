-- The laws of tallies: what other crates cite.
pub use Rattle.pack_laws.proofs.inside.Tallying.{count_tells_what_was_written, one_commit_is_counted, quiet_moves_are_not_counted, tallies_join, tallies_of_turns_join, tally_by_the_count, tally_in_numbers, tally_is_the_ruler}
