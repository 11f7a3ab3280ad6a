-- What is so on the packs of the second and the third line, by computation.
use Rattle.std.proofs.Common.{◌≡◌, ℕ, false, List, [], ◌∷◌, Some, refl}
use Rattle.laws_steps.specs.alto_words.specs.Fid.{disk_descriptor, sys_dir}
use Rattle.laws_steps.specs.alto_words.specs.Names.{is_stored_name}
use Rattle.laws_steps.specs.disk_records.specs.Addresses.{real_of}
use Rattle.laws_steps.specs.disk_records.specs.Labels.{in_range, is_free}
use Rattle.laws_steps.specs.disk_records.specs.Packs.{Pack}
use Rattle.laws_steps.specs.pack_model.specs.operations.Rooms.{Room}
use Rattle.laws_steps.specs.pack_model.specs.reading.Leaders.{leader_of, leader_name, is_readable}
use Rattle.laws_steps.specs.pack_model.specs.reading.Model.{read_as, read_sights}
use Rattle.laws_steps.specs.pack_model.specs.reading.Namings.{descriptor_name, keeps_system, sys_dir_name}
use Rattle.laws_steps.specs.pack_model.specs.reading.Sights.{sight, sights, sights_from}
use Rattle.laws_steps.specs.pack_model.specs.reading.Slots.{Item, is_entry, slot_at, slots_after}
use Rattle.laws_steps.specs.pack_model.specs.reading.Slots.Item.{entry, space}
use Rattle.laws_steps.specs.pack_model.specs.reading.Files.{first, joined, most_pages, file_bytes, place, lives}
use Rattle.laws_steps.specs.pack_model.specs.states.InUse.{free_sector_count}
use Rattle.laws_steps.specs.pack_model.specs.states.Sound.{mark_of, mark_open}
use Rattle.laws_met.specs.Peopled.{dir_d, entered_d, file_a, file_b, grown_a, made_b, made_d, name_a, name_b, name_d, numbered_b, numbered_d, room_b, room_d}
use Rattle.laws_met.specs.Premises.{found_b}
use Rattle.laws_met.proofs.inside.NewFile.{DirectoryIs, Made, NamesFit, Numbered}

-- Of a pack in a session: the mark is open, DiskDescriptor's page is in sector 4; the last serial, and the number of free sectors.
pub record InSession (p : Pack) (last frees : ℕ) : Type 0 where
  pub mark : mark_of (sights p) ≡ mark_open
  pub placed : place (sights p) disk_descriptor 1 ≡ Some 4
  pub last_is : (read_as p).last ≡ last
  pub free : free_sector_count (sights p) ≡ frees

-- ---- the second line
abbrev pub items_with_a : List Item
items_with_a = entry sys_dir sys_dir_name ∷ entry disk_descriptor descriptor_name ∷ entry file_a name_a ∷ space 223 ∷ []

abbrev pub found_d : Room
found_d = record { first = 3; place = 32; total = 223 }

pub names_fit_d : NamesFit sys_dir dir_d name_d items_with_a found_d room_d
unfolding is_stored_name keeps_system
names_fit_d = record {
  directory = refl;
  no_descriptor = refl;
  dir_no_descriptor = refl;
  no_system = refl;
  full_name = refl;
  stored = refl;
  fitting = refl;
  clear = refl;
  found_is = refl;
  room_is = refl;
  in_page = λ address. refl;
}

pub grown_session : InSession grown_a 3 40
unfolding sights_from sight real_of in_range is_free leader_of leader_name is_readable is_stored_name first joined most_pages file_bytes read_sights
grown_session = record { mark = refl; placed = refl; last_is = refl; free = refl }

pub grown_root : DirectoryIs grown_a sys_dir items_with_a
unfolding sights_from sight real_of in_range is_free leader_of leader_name is_readable is_stored_name first joined most_pages file_bytes slots_after slot_at is_entry
grown_root = record { living = refl; slots_are = refl }

pub grown_dead : lives (sights grown_a) dir_d ≡ false
unfolding sights_from sight real_of in_range is_free leader_of leader_name is_readable is_stored_name first joined most_pages file_bytes
grown_dead = refl

pub numbered_root_d : DirectoryIs numbered_d sys_dir items_with_a
unfolding sights_from sight real_of in_range is_free leader_of leader_name is_readable is_stored_name first joined most_pages file_bytes slots_after slot_at is_entry
numbered_root_d = record { living = refl; slots_are = refl }

pub numbered_is_d : Numbered numbered_d dir_d 8 9
unfolding sights_from sight real_of in_range is_free leader_of leader_name is_readable is_stored_name first joined most_pages file_bytes read_sights
numbered_is_d = record { dead = refl; last = refl; leader_free = refl; page_free = refl }

pub made_root_d : DirectoryIs made_d sys_dir items_with_a
unfolding sights_from sight real_of in_range is_free leader_of leader_name is_readable is_stored_name first joined most_pages file_bytes slots_after slot_at is_entry
made_root_d = record { living = refl; slots_are = refl }

pub made_is_d : Made made_d sys_dir dir_d found_d 2 8
unfolding sights_from sight real_of in_range is_free leader_of leader_name is_readable is_stored_name first joined most_pages file_bytes
made_is_d = record { living = refl; sector = refl; leader = refl }

-- ---- the third line
abbrev pub items_with_d : List Item
items_with_d = entry sys_dir sys_dir_name ∷ entry disk_descriptor descriptor_name ∷ entry file_a name_a ∷ entry dir_d name_d ∷ space 215 ∷ []

abbrev pub items_of_d : List Item
items_of_d = space 255 ∷ []

pub names_fit_b : NamesFit dir_d file_b name_b items_of_d found_b room_b
unfolding is_stored_name keeps_system
names_fit_b = record {
  directory = refl;
  no_descriptor = refl;
  dir_no_descriptor = refl;
  no_system = refl;
  full_name = refl;
  stored = refl;
  fitting = refl;
  clear = refl;
  found_is = refl;
  room_is = refl;
  in_page = λ address. refl;
}

pub entered_session : InSession entered_d 4 38
unfolding sights_from sight real_of in_range is_free leader_of leader_name is_readable is_stored_name first joined most_pages file_bytes read_sights
entered_session = record { mark = refl; placed = refl; last_is = refl; free = refl }

pub entered_root : DirectoryIs entered_d sys_dir items_with_d
unfolding sights_from sight real_of in_range is_free leader_of leader_name is_readable is_stored_name first joined most_pages file_bytes slots_after slot_at is_entry
entered_root = record { living = refl; slots_are = refl }

pub entered_dir : DirectoryIs entered_d dir_d items_of_d
unfolding sights_from sight real_of in_range is_free leader_of leader_name is_readable is_stored_name first joined most_pages file_bytes slots_after slot_at is_entry
entered_dir = record { living = refl; slots_are = refl }

pub entered_dead : lives (sights entered_d) file_b ≡ false
unfolding sights_from sight real_of in_range is_free leader_of leader_name is_readable is_stored_name first joined most_pages file_bytes
entered_dead = refl

pub numbered_dir : DirectoryIs numbered_b dir_d items_of_d
unfolding sights_from sight real_of in_range is_free leader_of leader_name is_readable is_stored_name first joined most_pages file_bytes slots_after slot_at is_entry
numbered_dir = record { living = refl; slots_are = refl }

pub numbered_is_b : Numbered numbered_b file_b 10 11
unfolding sights_from sight real_of in_range is_free leader_of leader_name is_readable is_stored_name first joined most_pages file_bytes read_sights
numbered_is_b = record { dead = refl; last = refl; leader_free = refl; page_free = refl }

pub made_dir : DirectoryIs made_b dir_d items_of_d
unfolding sights_from sight real_of in_range is_free leader_of leader_name is_readable is_stored_name first joined most_pages file_bytes slots_after slot_at is_entry
made_dir = record { living = refl; slots_are = refl }

pub made_is_b : Made made_b dir_d file_b found_b 9 10
unfolding sights_from sight real_of in_range is_free leader_of leader_name is_readable is_stored_name first joined most_pages file_bytes
made_is_b = record { living = refl; sector = refl; leader = refl }
