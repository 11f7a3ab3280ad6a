-- The name that a new entry gets: no entry has it, and it can be stored.
use Rattle.std.specs.List.{list_all}
use Rattle.std.specs.Prelude.{Bool, List, None, Some, true, ℕ, ◌≡◌}
use Rattle.laws_operation.specs.alto_words.specs.Fid.{is_directory}
use Rattle.laws_operation.specs.alto_words.specs.Names.{is_bare_name, is_stored_name}
use Rattle.laws_operation.specs.alto_words.specs.declared.fid.Fid.{Fid}
use Rattle.laws_operation.specs.alto_words.specs.declared.wanted.Wanted.{Wanted}
use Rattle.laws_operation.specs.alto_words.specs.declared.wanted.Wanted.TheVariants.{Exact, Newest}
use Rattle.laws_operation.specs.disk_records.specs.Packs.{Pack}
use Rattle.laws_operation.specs.pack_model.specs.reading.Files.{lives}
use Rattle.laws_operation.specs.pack_model.specs.reading.Model.{dir_items, read_as}
use Rattle.laws_operation.specs.pack_model.specs.reading.Sights.{sights}
use Rattle.laws_operation.specs.pack_model.specs.reading.Slots.{Item, slots}
use Rattle.laws_operation.specs.pack_model.specs.reading.Slots.Item.{entry, space}
use Rattle.laws_operation.specs.pack_model.specs.reading.Versions.{exact, new_name}
use Rattle.laws_operation.specs.pack_model.specs.states.Whole.{Tidy}

-- ---- names of entries
-- the slot is a free one, or the entry of a stored name
abbrev pub has_stored_name : Item → Bool
has_stored_name (space n) = true
has_stored_name (entry f own) = is_stored_name own

-- so is each slot of any words
abbrev pub SlotsHaveStoredNames : Type 0
SlotsHaveStoredNames = (words : List ℕ) → list_all has_stored_name (slots words) ≡ true

-- ---- the new name
-- a name that can be stored, or a bare one
abbrev pub CanBeWanted : Wanted → Type 0
CanBeWanted (Exact name) = is_stored_name name ≡ true
CanBeWanted (Newest base) = is_bare_name base ≡ true

-- among slots with stored names no entry has the new name, in any case of its letters, and it is a stored one
abbrev pub NewNameIsAbsent : Type 0
NewNameIsAbsent = (w : Wanted) (is : List Item) (name : List ℕ) → list_all has_stored_name is ≡ true → CanBeWanted w → new_name w is ≡ Some name → (exact name is ≡ None) × (is_stored_name name ≡ true)

-- so it is in a living directory of a tidy pack
abbrev pub NewNameIsAbsentInTheModel : Type 0
NewNameIsAbsentInTheModel = (p : Pack) (d : Fid) (w : Wanted) (name : List ℕ) → Tidy p → lives (sights p) d ≡ true → is_directory d ≡ true → CanBeWanted w → new_name w (dir_items (read_as p) d) ≡ Some name
    → (exact name (dir_items (read_as p) d) ≡ None) × (is_stored_name name ≡ true)
