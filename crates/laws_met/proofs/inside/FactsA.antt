-- What is so on the packs of the first line, by computation.
use Rattle.std.proofs.Common.{◌≡◌, true, false, List, [], ◌∷◌, Some, refl, length}
use Rattle.laws_steps.specs.alto_words.specs.Fid.{disk_descriptor, sys_dir}
use Rattle.laws_steps.specs.alto_words.specs.Names.{is_stored_name}
use Rattle.laws_steps.specs.disk_records.specs.Addresses.{real_of}
use Rattle.laws_steps.specs.disk_records.specs.Labels.{in_range, is_free}
use Rattle.laws_steps.specs.disk_records.specs.Packs.{is_free_at, sector_at}
use Rattle.laws_steps.specs.pack_model.specs.operations.Rooms.{Room}
use Rattle.laws_steps.specs.pack_model.specs.reading.Leaders.{leader_of, leader_name, is_readable}
use Rattle.laws_steps.specs.pack_model.specs.reading.Model.{read_as, read_sights}
use Rattle.laws_steps.specs.pack_model.specs.reading.Namings.{descriptor_name, keeps_system, sys_dir_name}
use Rattle.laws_steps.specs.pack_model.specs.reading.Sights.{sight, sights, sights_from}
use Rattle.laws_steps.specs.pack_model.specs.reading.Slots.{Item, is_entry, slot_at, slots_after}
use Rattle.laws_steps.specs.pack_model.specs.reading.Slots.Item.{entry, space}
use Rattle.laws_steps.specs.pack_model.specs.reading.Files.{first, joined, most_pages, file_bytes, place, lives}
use Rattle.laws_met.specs.Peopled.{entered_a, file_a, formatted_pack, made_a, name_a, numbered_a, opened, room_a}
use Rattle.laws_met.proofs.inside.NewFile.{DirectoryIs, Made, NamesFit, Numbered}

-- SysDir's slots, and the room for an entry
abbrev pub items_before : List Item
items_before = entry sys_dir sys_dir_name ∷ entry disk_descriptor descriptor_name ∷ space 231 ∷ []

abbrev pub found_a : Room
found_a = record { first = 2; place = 24; total = 231 }

pub names_fit_a : NamesFit sys_dir file_a name_a items_before found_a room_a
unfolding is_stored_name keeps_system
names_fit_a = record {
  directory = refl;
  no_descriptor = refl;
  dir_no_descriptor = refl;
  no_system = refl;
  full_name = refl;
  stored = refl;
  fitting = refl;
  clear = refl;
  found_is = refl;
  room_is = refl;
  in_page = λ address. refl;
}

-- ---- the packs
pub formatted_root : DirectoryIs formatted_pack sys_dir items_before
unfolding sights_from sight real_of in_range is_free leader_of leader_name is_readable is_stored_name first joined most_pages file_bytes slots_after slot_at is_entry
formatted_root = record { living = refl; slots_are = refl }

pub in_formatted : (place (sights formatted_pack) disk_descriptor 1 ≡ Some 4) × (lives (sights formatted_pack) file_a ≡ false)
unfolding sights_from sight real_of in_range is_free leader_of leader_name is_readable is_stored_name first
in_formatted = (refl, refl)

pub in_opened : (place (sights opened) disk_descriptor 1 ≡ Some 4) × ((read_as opened).last ≡ 2)
unfolding sights_from sight real_of in_range is_free leader_of leader_name is_readable is_stored_name first joined most_pages file_bytes read_sights
in_opened = (refl, refl)

pub numbered_root : DirectoryIs numbered_a sys_dir items_before
unfolding sights_from sight real_of in_range is_free leader_of leader_name is_readable is_stored_name first joined most_pages file_bytes slots_after slot_at is_entry
numbered_root = record { living = refl; slots_are = refl }

pub numbered_is : Numbered numbered_a file_a 5 6
unfolding sights_from sight real_of in_range is_free leader_of leader_name is_readable is_stored_name first joined most_pages file_bytes read_sights
numbered_is = record { dead = refl; last = refl; leader_free = refl; page_free = refl }

pub made_root : DirectoryIs made_a sys_dir items_before
unfolding sights_from sight real_of in_range is_free leader_of leader_name is_readable is_stored_name first joined most_pages file_bytes slots_after slot_at is_entry
made_root = record { living = refl; slots_are = refl }

pub made_is : Made made_a sys_dir file_a found_a 2 5
unfolding sights_from sight real_of in_range is_free leader_of leader_name is_readable is_stored_name first joined most_pages file_bytes
made_is = record { living = refl; sector = refl; leader = refl }

pub in_entered :
    (file_bytes (sights entered_a) file_a ≡ [])
    × (place (sights entered_a) file_a 1 ≡ Some 6)
    × (length (sector_at entered_a 6).value ≡ 256)
    × (is_free_at entered_a 7 ≡ true)
unfolding sights_from sight real_of in_range is_free leader_of leader_name is_readable is_stored_name first joined most_pages file_bytes
in_entered = (refl, refl, refl, refl)
