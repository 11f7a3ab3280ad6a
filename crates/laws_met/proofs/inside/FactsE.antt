-- What is so on the packs of a line that renames a file within its directory, by computation.
use Rattle.std.proofs.Common.{◌≡◌, true, List, [], ◌∷◌, Some, refl, length}
use Rattle.laws_steps.specs.alto_words.specs.Names.{is_stored_name}
use Rattle.laws_steps.specs.disk_records.specs.Addresses.{real_of}
use Rattle.laws_steps.specs.disk_records.specs.Labels.{in_range, is_free}
use Rattle.laws_steps.specs.disk_records.specs.Packs.{sector_at}
use Rattle.laws_steps.specs.pack_model.specs.reading.Leaders.{leader_of, leader_name, is_readable}
use Rattle.laws_steps.specs.pack_model.specs.reading.Namings.{keeps_system}
use Rattle.laws_steps.specs.pack_model.specs.reading.Sights.{sight, sights, sights_from}
use Rattle.laws_steps.specs.pack_model.specs.reading.Slots.{Item, is_entry, slot_at, slots_after}
use Rattle.laws_steps.specs.pack_model.specs.reading.Slots.Item.{space}
use Rattle.laws_steps.specs.pack_model.specs.reading.Files.{first, joined, most_pages, file_bytes, place, lives}
use Rattle.laws_met.specs.Peopled.{dir_d, file_b, left_b, name_e, peopled, retitled_b, room_e}
use Rattle.laws_met.specs.Premises.{found_b}
use Rattle.laws_met.proofs.inside.FactsP.{inner_items}
use Rattle.laws_met.proofs.inside.NewFile.{DirectoryIs, NamesFit}

-- its slots once the entry is gone
abbrev pub items_free : List Item
items_free = space 8 ∷ space 247 ∷ []

pub names_fit_e : NamesFit dir_d file_b name_e items_free found_b room_e
unfolding is_stored_name keeps_system
names_fit_e = record {
  directory = refl;
  no_descriptor = refl;
  dir_no_descriptor = refl;
  no_system = refl;
  full_name = refl;
  stored = refl;
  fitting = refl;
  clear = refl;
  found_is = refl;
  room_is = refl;
  in_page = λ address. refl;
}

pub leader_b : (place (sights peopled) file_b 0 ≡ Some 10) × (length (sector_at peopled 10).value ≡ 256)
unfolding sights_from sight real_of in_range is_free leader_of leader_name is_readable is_stored_name first joined most_pages file_bytes
leader_b = (refl, refl)

pub retitled_inner_b : DirectoryIs retitled_b dir_d inner_items
unfolding sights_from sight real_of in_range is_free leader_of leader_name is_readable is_stored_name first joined most_pages file_bytes slots_after slot_at is_entry
retitled_inner_b = record { living = refl; slots_are = refl }

pub retitled_page_b : place (sights retitled_b) dir_d 1 ≡ Some 9
unfolding sights_from sight real_of in_range is_free leader_of leader_name is_readable is_stored_name first joined most_pages file_bytes
retitled_page_b = refl

pub left_inner_b : DirectoryIs left_b dir_d items_free
unfolding sights_from sight real_of in_range is_free leader_of leader_name is_readable is_stored_name first joined most_pages file_bytes slots_after slot_at is_entry
left_inner_b = record { living = refl; slots_are = refl }

pub left_facts_b : (lives (sights left_b) file_b ≡ true) × (place (sights left_b) file_b 0 ≡ Some 10) × (place (sights left_b) dir_d 1 ≡ Some 9)
unfolding sights_from sight real_of in_range is_free leader_of leader_name is_readable is_stored_name first joined most_pages file_bytes
left_facts_b = (refl, refl, refl)
