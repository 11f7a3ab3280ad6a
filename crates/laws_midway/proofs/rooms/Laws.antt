-- Room for an entry, by the slots of a directory that are met one at a time. What other crates cite.
pub use Rattle.laws_midway.proofs.inside.FoundRoom.{found_room_stays, room_goes_on}
pub use Rattle.laws_midway.proofs.inside.FreeRuns.{room_is_found_in_a_run, row_is_short}
pub use Rattle.laws_midway.proofs.inside.MostWords.{most_words_go_on}
