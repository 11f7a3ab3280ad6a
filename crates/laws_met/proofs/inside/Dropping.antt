-- A drop by two calls, and a file whose entry leaves, on the pack with two files and a directory.
use Rattle.std.proofs.Common.{List, Ok, Some, [], refl, ◌∷◌, ◌≡◌}
use Rattle.laws_steps.specs.alto_words.specs.Fid.{sys_dir}
use Rattle.laws_steps.specs.disk_records.specs.Addresses.{real_of}
use Rattle.laws_steps.specs.disk_records.specs.Commands.{value_writes}
use Rattle.laws_steps.specs.disk_records.specs.Labels.{in_range, is_free}
use Rattle.laws_steps.specs.disk_records.specs.Packs.{after}
use Rattle.laws_steps.specs.disk_records.specs.declared.records.Event.{Event}
use Rattle.laws_steps.specs.disk_records.specs.declared.records.Place.TheVariants.{Held}
use Rattle.laws_steps.specs.laws_call.proofs.going.Laws.{no_call_yet}
use Rattle.laws_steps.specs.laws_call.specs.Writing.{entry_freed, leaves}
use Rattle.laws_steps.specs.laws_record.proofs.Copying.{place_carried}
use Rattle.laws_steps.proofs.dropping.Laws.{drop_is_joined, releases_leave_the_entry}
use Rattle.laws_steps.proofs.lines.Laws.{one_keeps_found}
use Rattle.laws_steps.specs.LineKeepingLaws.{KeepsFound}
use Rattle.laws_steps.specs.pack_model.specs.hints.Misled.{leader_page}
use Rattle.laws_steps.specs.pack_model.specs.hints.Sources.{IsFrom}
use Rattle.laws_steps.specs.pack_model.specs.operations.Step.Operation.{leave}
use Rattle.laws_steps.specs.pack_model.specs.reading.Files.{file_bytes, first, joined, most_pages, place}
use Rattle.laws_steps.specs.pack_model.specs.reading.Leaders.{is_readable, leader_name, leader_of}
use Rattle.laws_steps.specs.pack_model.specs.reading.Sights.{sight, sights, sights_from}
use Rattle.laws_steps.specs.alto_words.specs.Names.{is_stored_name}
use Rattle.laws_met.specs.Dropping.{DropByTwoCallsIsMet, HeldFileStaysFound}
use Rattle.laws_met.specs.Peopled.{dir_d, file_a, file_b, name_a, name_b, peopled}
use Rattle.laws_met.specs.Premises.{system_items}
use Rattle.laws_met.proofs.inside.Changing.{entry_a, items_then}
use Rattle.laws_met.proofs.inside.Meeting.{may_drop, premises_are_met, stands_b}

-- ---- a drop
pub drop_by_two_calls_is_met : (T E : Type 0) → DropByTwoCallsIsMet T E
drop_by_two_calls_is_met T E =
    let between = releases_leave_the_entry peopled file_a sys_dir 5 (6 ∷ 7 ∷ []) 2 system_items items_then name_a stands_b.whole stands_b.tidy may_drop entry_a in
    record {
      between = between;
      entry = between.entry 2 system_items items_then name_a entry_a;
      joins = drop_is_joined T (Unit {0}) E (Unit {0}) peopled [] [] tt file_a sys_dir 5 (6 ∷ 7 ∷ []) 2 system_items items_then name_a (no_call_yet (Unit {0}) (Unit {0}) peopled (Ok tt)) stands_b.whole stands_b.tidy may_drop entry_a;
    }

-- ---- a file whose entry leaves
leader_b : place (sights peopled) file_b 0 ≡ Some 10
unfolding sights_from sight real_of in_range is_free leader_of leader_name is_readable is_stored_name first joined most_pages file_bytes
leader_b = refl

held_b : IsFrom peopled file_b 10 (Held 10)
held_b = (refl, place_carried peopled (leader_page file_b) 10 leader_b)

pub held_file_stays_found : HeldFileStaysFound
held_file_stays_found =
    let value : List Event = value_writes 9 (entry_freed peopled 9 [] file_b name_b) in
    let keeps : KeepsFound peopled (after peopled value) (leave dir_d name_b ∷ []) = one_keeps_found peopled (leave dir_d name_b) [] [] value stands_b.whole stands_b.tidy (leaves {name = name_b} premises_are_met.has_entry refl refl) in
    record { held = held_b; left = keeps file_b 10 (Held 10) (tt, tt) held_b; keeps = keeps }
