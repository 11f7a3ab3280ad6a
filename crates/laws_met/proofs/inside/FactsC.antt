-- What is so on the packs of a line that changes files, and of one that renames a file, by computation.
use Rattle.std.proofs.Common.{◌≡◌, true, [], ◌∷◌, Some, refl, length}
use Rattle.laws_steps.specs.alto_words.specs.Fid.{sys_dir}
use Rattle.laws_steps.specs.alto_words.specs.Names.{is_stored_name}
use Rattle.laws_steps.specs.disk_records.specs.Addresses.{real_of}
use Rattle.laws_steps.specs.disk_records.specs.Labels.{in_range, is_free}
use Rattle.laws_steps.specs.disk_records.specs.Packs.{is_free_at, sector_at}
use Rattle.laws_steps.specs.pack_model.specs.reading.Leaders.{leader_of, leader_name, is_readable}
use Rattle.laws_steps.specs.pack_model.specs.reading.Namings.{keeps_system}
use Rattle.laws_steps.specs.pack_model.specs.reading.Sights.{sight, sights, sights_from}
use Rattle.laws_steps.specs.pack_model.specs.reading.Slots.{is_entry, slot_at, slots_after}
use Rattle.laws_steps.specs.pack_model.specs.reading.Files.{first, joined, most_pages, file_bytes, place, lives}
use Rattle.laws_steps.specs.laws_operation.specs.ByteLaws.{Bear}
use Rattle.laws_met.specs.Peopled.{after_cut, dir_d, file_a, after_growth, left, name_c, name_z, after_put, retitled, room_c, after_stamp, after_title}
use Rattle.laws_met.specs.Premises.{found_c}
use Rattle.laws_met.proofs.inside.FactsP.{inner_items, root_items}
use Rattle.laws_met.proofs.inside.NewFile.{DirectoryIs, NamesFit}

-- ---- changes
pub record PutFacts : Type 0 where
  pub size : length (file_bytes (sights after_put) file_a) ≡ 600
  pub page : place (sights after_put) file_a 2 ≡ Some 7
  pub sized : length (sector_at after_put 7).value ≡ 256
  pub free : is_free_at after_put 12 ≡ true

pub put_facts : PutFacts
unfolding sights_from sight real_of in_range is_free leader_of leader_name is_readable is_stored_name first joined most_pages file_bytes
put_facts = record { size = refl; page = refl; sized = refl; free = refl }

pub record GrownFacts : Type 0 where
  pub size : length (file_bytes (sights after_growth) file_a) ≡ 1100
  pub pages : Bear (sights after_growth) file_a 1 (6 ∷ 7 ∷ 12 ∷ [])

pub grown_facts : GrownFacts
unfolding sights_from sight real_of in_range is_free leader_of leader_name is_readable is_stored_name first joined most_pages file_bytes
grown_facts = record { size = refl; pages = (refl, (refl, (refl, tt))) }

pub cut_facts : (place (sights after_cut) file_a 0 ≡ Some 5) × (length (sector_at after_cut 5).value ≡ 256)
unfolding sights_from sight real_of in_range is_free leader_of leader_name is_readable is_stored_name first joined most_pages file_bytes
cut_facts = (refl, refl)

pub titled_facts : (place (sights after_title) file_a 0 ≡ Some 5) × (length (sector_at after_title 5).value ≡ 256) × (is_stored_name name_z ≡ true)
unfolding sights_from sight real_of in_range is_free leader_of leader_name is_readable is_stored_name first joined most_pages file_bytes
titled_facts = (refl, refl, refl)

pub record StampedFacts : Type 0 where
  pub size : length (file_bytes (sights after_stamp) dir_d) ≡ 510
  pub page : place (sights after_stamp) dir_d 1 ≡ Some 9
  pub sized : length (sector_at after_stamp 9).value ≡ 256
  pub free : is_free_at after_stamp 7 ≡ true

pub stamped_facts : StampedFacts
unfolding sights_from sight real_of in_range is_free leader_of leader_name is_readable is_stored_name first joined most_pages file_bytes
stamped_facts = record { size = refl; page = refl; sized = refl; free = refl }

-- ---- the new name
pub names_fit_c : NamesFit dir_d file_a name_c inner_items found_c room_c
unfolding is_stored_name keeps_system
names_fit_c = record {
  directory = refl;
  no_descriptor = refl;
  dir_no_descriptor = refl;
  no_system = refl;
  full_name = refl;
  stored = refl;
  fitting = refl;
  clear = refl;
  found_is = refl;
  room_is = refl;
  in_page = λ address. refl;
}

pub retitled_root : DirectoryIs retitled sys_dir root_items
unfolding sights_from sight real_of in_range is_free leader_of leader_name is_readable is_stored_name first joined most_pages file_bytes slots_after slot_at is_entry
retitled_root = record { living = refl; slots_are = refl }

pub retitled_inner : DirectoryIs retitled dir_d inner_items
unfolding sights_from sight real_of in_range is_free leader_of leader_name is_readable is_stored_name first joined most_pages file_bytes slots_after slot_at is_entry
retitled_inner = record { living = refl; slots_are = refl }

pub retitled_page : place (sights retitled) sys_dir 1 ≡ Some 2
unfolding sights_from sight real_of in_range is_free leader_of leader_name is_readable is_stored_name first joined most_pages file_bytes
retitled_page = refl

pub left_inner : DirectoryIs left dir_d inner_items
unfolding sights_from sight real_of in_range is_free leader_of leader_name is_readable is_stored_name first joined most_pages file_bytes slots_after slot_at is_entry
left_inner = record { living = refl; slots_are = refl }

pub left_facts : (lives (sights left) file_a ≡ true) × (place (sights left) file_a 0 ≡ Some 5) × (place (sights left) dir_d 1 ≡ Some 9)
unfolding sights_from sight real_of in_range is_free leader_of leader_name is_readable is_stored_name first joined most_pages file_bytes
left_facts = (refl, refl, refl)
