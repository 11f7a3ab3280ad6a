-- The entry that an operand means, where it stands in a directory: its slot, its place and its address.
-- Versions of names, and which of them a line means, are this project's choice.
use Rattle.std.specs.Prelude.{◌&&◌, ◌||◌, ℕ, Bool, false, cond, nat_lt, List, fold, Option, Some, None, is_none}
use Rattle.disk_records.specs.alto_words.specs.declared.fid.Fid.{Fid}
use Rattle.disk_records.specs.alto_words.specs.Fid.{is_directory, is_system}
use Rattle.disk_records.specs.alto_words.specs.Names.{is_same_name, version_of}
use Rattle.disk_records.specs.alto_words.specs.declared.wanted.Wanted.{Wanted}
use Rattle.disk_records.specs.alto_words.specs.declared.wanted.Wanted.TheVariants.{Exact, Newest}
use Rattle.pack_model.specs.reading.Slots.{Item}
use Rattle.pack_model.specs.reading.Slots.Item.{space, entry}
use Rattle.pack_model.specs.reading.SlotWords.{SlotAt}
use Rattle.pack_model.specs.reading.Versions.{Entered, has_base}

-- ---- the entry that is meant
-- An entry where it stands: its file, its name, the first word of its slot in the directory, and the address in it, a virtual one.
pub record EntryAt : Type 0 where
  pub fid : Fid
  pub name : List ℕ
  pub place : ℕ
  pub address : ℕ

-- with no place and no address, as an entry of a model
abbrev pub entered : EntryAt → Entered
entered e = (e.fid, e.name)

-- its slot
abbrev pub slot_of_entry : EntryAt → SlotAt
slot_of_entry e = record { place = e.place; item = entry e.fid e.name; address = e.address }

-- the version of an entry that was found; 0 where none was
abbrev pub version_met : Option EntryAt → ℕ
version_met None = 0
version_met (Some e) = version_of e.name

-- an entry of this name is meant rather than the one met before it: the first one of an exact name; one of a greater version of a base
abbrev pub is_meant : Wanted → Option EntryAt → List ℕ → Bool
is_meant (Exact name) best own = is_none best && is_same_name own name
is_meant (Newest base) best own = has_base base own && nat_lt (version_met best) (version_of own)

abbrev pub meant_item : Wanted → Option EntryAt → ℕ → Item → ℕ → Option EntryAt
meant_item w best place (space n) address = best
meant_item w best place (entry f own) address = cond (is_meant w best own) (Some (record { fid = f; name = own; place = place; address = address })) best

-- the entry meant, once this slot is met too
abbrev pub meant_by : Wanted → Option EntryAt → SlotAt → Option EntryAt
meant_by w best s = meant_item w best s.place s.item s.address

-- the entry that is meant, among slots where they stand: they are met one at a time, in order
abbrev pub entry_at : Wanted → List SlotAt → Option EntryAt
entry_at w slots = fold (meant_by w) None slots

-- ---- bases that are held
-- this slot has an entry of a directory or of a system file with this base as its name
abbrev pub holds_base : List ℕ → Item → Bool
holds_base base (space n) = false
holds_base base (entry f own) = is_same_name own base && (is_directory f || is_system f)

-- some slot has; they are met one at a time, in order
abbrev pub is_held_at : List ℕ → List SlotAt → Bool
is_held_at base slots = fold (λ held s. held || holds_base base s.item) false slots
