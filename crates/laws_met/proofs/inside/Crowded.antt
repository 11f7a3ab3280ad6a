-- The pack whose SysDir has two pages, by computation.
use Rattle.std.proofs.Common.{◌≡◌, ◌&&◌, Bool, true, false, List, [], ◌∷◌, ◌++◌, Some, refl, ap, subst, ◌∙◌}
use Rattle.std.specs.List.{list_any}
use Rattle.std.specs.FinMap.{entries}
use Rattle.laws_steps.specs.alto_words.specs.Fid.{sys_dir}
use Rattle.laws_steps.specs.alto_words.specs.Names.{is_stored_name}
use Rattle.laws_steps.specs.disk_records.specs.Addresses.{real_of}
use Rattle.laws_steps.specs.disk_records.specs.Labels.{in_range, is_free}
use Rattle.laws_steps.specs.pack_model.specs.hints.Links.{dir_words}
use Rattle.laws_steps.specs.pack_model.specs.operations.Entering.{found_room}
use Rattle.laws_steps.specs.pack_model.specs.operations.Rooms.{find_room}
use Rattle.laws_steps.specs.pack_model.specs.operations.Step.Operation.{enter}
use Rattle.laws_steps.specs.pack_model.specs.reading.Bodies.{described}
use Rattle.laws_steps.specs.pack_model.specs.reading.Files.{file_bytes, first, joined, lives, most_pages, place}
use Rattle.laws_steps.specs.pack_model.specs.reading.Leaders.{is_readable, leader_name, leader_of}
use Rattle.laws_steps.specs.pack_model.specs.reading.Model.{dir_items, read_as}
use Rattle.laws_steps.specs.pack_model.specs.reading.Namings.{AllKept, Naming, clashes, is_kept, keeps_system, namings}
use Rattle.laws_steps.specs.pack_model.specs.reading.Sights.{sight, sights, sights_from}
use Rattle.laws_steps.specs.pack_model.specs.reading.Slots.{Item, is_entry, slot_at, slots, slots_after}
use Rattle.laws_steps.specs.pack_model.specs.states.Whole.{Tidy}
use Rattle.laws_steps.specs.pack_laws.proofs.ByLists.{described_by, described_list, read_by, read_list}
use Rattle.laws_steps.specs.laws_record.proofs.Heads.{and_left, and_right}
use Rattle.laws_steps.specs.laws_record.specs.EnterLaws.{MayEnter}
use Rattle.laws_steps.specs.laws_operation.proofs.entries.Laws.{items_are_slots}
use Rattle.laws_steps.specs.laws_operation.specs.DirectoryWords.{CanEnter}
use Rattle.laws_steps.specs.laws_call.specs.Writing.{Written, entering_writes}
use Rattle.laws_steps.specs.laws_call.specs.Writing.Written.{enters}
use Rattle.laws_met.proofs.inside.CrowdedWhole.{whole}
use Rattle.laws_met.specs.Crowded.{EnteringOverAPagesEndIsWritten, before_i, crowded, file_i, found_i, free_i, name_i, room_i, words_i}
use Rattle.laws_met.specs.Peopled.{small}

-- ---- what a caller looks up
pub record LooksUp : Type 0 where
  pub living : lives (sights crowded) sys_dir ≡ true
  pub lives_i : lives (sights crowded) file_i ≡ true
  pub at_1 : place (sights crowded) sys_dir 1 ≡ Some 2
  pub at_2 : place (sights crowded) sys_dir 2 ≡ Some 21
  pub at_i : place (sights crowded) file_i 0 ≡ Some 22

pub looks_up : LooksUp
unfolding sights_from sight real_of in_range is_free leader_of leader_name is_readable is_stored_name first joined most_pages file_bytes
looks_up = record { living = refl; lives_i = refl; at_1 = refl; at_2 = refl; at_i = refl }

-- ---- the entries of the model, and the slots of SysDir
kept_all : (List Naming → Naming → Bool) → List Naming → List Naming → Bool
kept_all ok before [] = true
kept_all ok before (e ∷ es) = ok before e && kept_all ok (e ∷ before) es

all_kept : (ok : List Naming → Naming → Bool) (before es : List Naming) → kept_all ok before es ≡ true → AllKept ok before es
unfolding kept_all
all_kept ok before [] is = tt
all_kept ok before (e ∷ es) is = (and_left (ok before e) (kept_all ok (e ∷ before) es) is, all_kept ok (e ∷ before) es (and_right (ok before e) (kept_all ok (e ∷ before) es) is))

kept_by_lists : kept_all (is_kept (lives (sights crowded))) [] (namings (described_by (sights crowded))) ≡ true
unfolding kept_all sights_from sight real_of in_range is_free leader_of leader_name is_readable is_stored_name first joined most_pages file_bytes slots_after slot_at is_entry keeps_system
kept_by_lists = refl

pub tidy : Tidy crowded
tidy = all_kept (is_kept (lives (sights crowded))) [] (namings (entries (described (sights crowded)))) (ap (λ es. kept_all (is_kept (lives (sights crowded))) [] (namings es)) (described_list (sights crowded)) ∙ kept_by_lists)

abbrev new_entry : Naming
new_entry = record { dir = sys_dir; name = name_i; fid = file_i }

apart_by_lists : list_any (clashes new_entry) (namings (read_by (sights crowded))) ≡ false
unfolding sights_from sight real_of in_range is_free leader_of leader_name is_readable is_stored_name first joined most_pages file_bytes slots_after slot_at is_entry keeps_system
apart_by_lists = refl

may_enter : MayEnter crowded sys_dir file_i name_i
unfolding keeps_system
may_enter = record { lives = looks_up.lives_i; fits = refl; apart = ap (λ es. list_any (clashes new_entry) (namings es)) (read_list small (sights crowded)) ∙ apart_by_lists }

abbrev root_slots : List Item
root_slots = before_i ++ free_i

pub slots_are : slots (dir_words crowded sys_dir) ≡ root_slots
unfolding sights_from sight real_of in_range is_free leader_of leader_name is_readable is_stored_name first joined most_pages file_bytes slots_after slot_at is_entry
slots_are = refl

items_are : dir_items (read_as crowded) sys_dir ≡ root_slots
items_are = items_are_slots crowded sys_dir tidy looks_up.living refl ∙ slots_are

-- ---- the entering
room_is : (find_room 26 root_slots ≡ Some found_i) × (found_room found_i root_slots 2 21 ≡ room_i)
room_is = (refl, refl)

pub stored_i : is_stored_name name_i ≡ true
unfolding is_stored_name
stored_i = refl

can_enter : CanEnter crowded sys_dir name_i file_i found_i words_i 2 21
can_enter = record {
  directory = refl;
  living = looks_up.living;
  no_system = refl;
  entry_is = may_enter;
  stored = stored_i;
  found = ap (find_room 26) items_are ∙ room_is.0;
  sector = looks_up.at_1;
  next_sector = λ over. looks_up.at_2;
}

written : Written crowded (enter sys_dir name_i file_i) [] [] (entering_writes crowded room_i words_i)
written = subst (λ r. Written crowded (enter sys_dir name_i file_i) [] [] (entering_writes crowded r words_i)) (ap (λ is. found_room found_i is 2 21) items_are ∙ room_is.1) (enters can_enter looks_up.at_i)

pub entering_over_a_pages_end_is_written : EnteringOverAPagesEndIsWritten
entering_over_a_pages_end_is_written = record { whole = whole; tidy = tidy; can_enter = can_enter; over = refl; written = written; three = refl }
