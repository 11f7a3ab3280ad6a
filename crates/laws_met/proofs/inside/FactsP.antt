-- What is so on the pack with two files and a directory, by computation.
use Rattle.std.proofs.Common.{◌≡◌, true, List, [], ◌∷◌, Some, refl, length}
use Rattle.laws_steps.specs.alto_words.specs.Fid.{disk_descriptor, sys_dir}
use Rattle.laws_steps.specs.alto_words.specs.Names.{is_stored_name}
use Rattle.laws_steps.specs.disk_records.specs.Addresses.{real_of}
use Rattle.laws_steps.specs.disk_records.specs.Labels.{in_range, is_free}
use Rattle.laws_steps.specs.disk_records.specs.Packs.{is_free_at, sector_at}
use Rattle.laws_steps.specs.pack_model.specs.operations.Step.{new_leader}
use Rattle.laws_steps.specs.pack_model.specs.reading.Leaders.{leader_of, leader_name, is_readable}
use Rattle.laws_steps.specs.pack_model.specs.reading.Model.{read_sights}
use Rattle.laws_steps.specs.pack_model.specs.reading.Namings.{descriptor_name, sys_dir_name}
use Rattle.laws_steps.specs.pack_model.specs.reading.Sights.{sight, sights, sights_from}
use Rattle.laws_steps.specs.pack_model.specs.reading.Slots.{Item, is_entry, slot_at, slots_after}
use Rattle.laws_steps.specs.pack_model.specs.reading.Slots.Item.{entry, space}
use Rattle.laws_steps.specs.pack_model.specs.reading.Files.{first, joined, leader, most_pages, file_bytes, place}
use Rattle.laws_steps.specs.laws_operation.specs.ByteLaws.{Bear}
use Rattle.laws_met.specs.Peopled.{bytes_a, dir_d, file_a, file_b, name_a, name_b, name_d, peopled}
use Rattle.laws_met.proofs.inside.FactsD.{InSession}
use Rattle.laws_met.proofs.inside.NewFile.{DirectoryIs}

pub session : InSession peopled 5 36
unfolding sights_from sight real_of in_range is_free leader_of leader_name is_readable is_stored_name first joined most_pages file_bytes read_sights
session = record { mark = refl; placed = refl; last_is = refl; free = refl }

-- the slots of both directories
abbrev pub root_items : List Item
root_items = entry sys_dir sys_dir_name ∷ entry disk_descriptor descriptor_name ∷ entry file_a name_a ∷ entry dir_d name_d ∷ space 215 ∷ []

abbrev pub inner_items : List Item
inner_items = entry file_b name_b ∷ space 247 ∷ []

pub root_is : DirectoryIs peopled sys_dir root_items
unfolding sights_from sight real_of in_range is_free leader_of leader_name is_readable is_stored_name first joined most_pages file_bytes slots_after slot_at is_entry
root_is = record { living = refl; slots_are = refl }

pub inner_is : DirectoryIs peopled dir_d inner_items
unfolding sights_from sight real_of in_range is_free leader_of leader_name is_readable is_stored_name first joined most_pages file_bytes slots_after slot_at is_entry
inner_is = record { living = refl; slots_are = refl }

-- the ordinary file
pub record FileIs : Type 0 where
  pub lead : leader (sights peopled) file_a ≡ Some (new_leader name_a 1000)
  pub bytes : file_bytes (sights peopled) file_a ≡ bytes_a
  pub pages : Bear (sights peopled) file_a 0 (5 ∷ 6 ∷ 7 ∷ [])
  pub leader_sized : length (sector_at peopled 5).value ≡ 256
  pub sized : length (sector_at peopled 7).value ≡ 256

pub file_is : FileIs
unfolding sights_from sight real_of in_range is_free leader_of leader_name is_readable is_stored_name first joined most_pages file_bytes
file_is = record { lead = refl; bytes = refl; pages = (refl, (refl, (refl, tt))); leader_sized = refl; sized = refl }

-- the directory, and a free sector
pub record DirectoryLies : Type 0 where
  pub size : length (file_bytes (sights peopled) dir_d) ≡ 510
  pub page : place (sights peopled) dir_d 1 ≡ Some 9
  pub sized : length (sector_at peopled 9).value ≡ 256
  pub free : is_free_at peopled 12 ≡ true
  pub sized_4 : length (sector_at peopled 4).value ≡ 256
  pub root_page : place (sights peopled) sys_dir 1 ≡ Some 2

pub directory_lies : DirectoryLies
unfolding sights_from sight real_of in_range is_free leader_of leader_name is_readable is_stored_name first joined most_pages file_bytes
directory_lies = record { size = refl; page = refl; sized = refl; free = refl; sized_4 = refl; root_page = refl }
