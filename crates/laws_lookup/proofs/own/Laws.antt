-- The laws of a directory's own slots: what other crates cite.
pub use Rattle.laws_lookup.proofs.Replacing.{entry_beside_stands, entry_stands_outside_of_free_slots, replacing_turns_round}
pub use Rattle.laws_lookup.proofs.inside.Replacings.{enter_replaces_slots, freeing_replaces_slots, leave_replaces_slots, widen_replaces_slots}
