-- The model without files, as formatting leaves it.
use Rattle.std.specs.Prelude.{ℕ, ◌-◌, List, [], ◌∷◌}
use Rattle.std.specs.FinMap.{from_entries}
use Rattle.laws_hint.specs.alto_words.specs.Fid.{sys_dir, disk_descriptor}
use Rattle.laws_hint.specs.disk_records.specs.declared.shape.Shape.{Shape}
use Rattle.laws_hint.specs.disk_records.specs.Addresses.{pages_of}
use Rattle.laws_hint.specs.pack_model.specs.reading.Namings.{sys_dir_name, descriptor_name}
use Rattle.laws_hint.specs.pack_model.specs.reading.Slots.{Item}
use Rattle.laws_hint.specs.pack_model.specs.reading.Slots.Item.{space, entry}
use Rattle.laws_hint.specs.pack_model.specs.reading.Bodies.{File}
use Rattle.laws_hint.specs.pack_model.specs.reading.Bodies.Body.{items_of}
use Rattle.laws_hint.specs.pack_model.specs.reading.Model.{Model}
use Rattle.laws_hint.specs.pack_model.specs.operations.Step.{new_leader}

-- SysDir's slots: both system files and 231 free words
abbrev pub empty_items : List Item
empty_items = entry sys_dir sys_dir_name ∷ entry disk_descriptor descriptor_name ∷ space 231 ∷ []

abbrev pub empty_root : ℕ → File
empty_root moment = record { leader = new_leader sys_dir_name moment; body = items_of empty_items }

-- The model of this shape with the two system files and no other: each sector except sector 0 is good, the last serial is
-- DiskDescriptor's, and of the files a model has SysDir alone, since DiskDescriptor is none of them.
abbrev pub empty_model : Shape → ℕ → Model
empty_model shape moment = record { shape = shape; good = pages_of shape - 1; last = 2; files = from_entries ((sys_dir, empty_root moment) ∷ []) }
