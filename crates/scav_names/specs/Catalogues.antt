-- The names of a pack as they are read into memory.
use Rattle.std.specs.Prelude.{◌≡◌, ℕ, suc, ◌+◌, ◌/◌, ◌^◌, ◌<◌, ◌≤◌, true, cond, List, [], ◌∷◌, ◌++◌, length, get_or, All, Some}
use Rattle.std.specs.FinMap.{entries}
use Rattle.alto_words.specs.declared.fid.Fid.{Fid}
use Rattle.alto_words.specs.Fid.{is_directory, is_fid, sys_dir}
use Rattle.disk_records.specs.Addresses.{pages_of}
use Rattle.disk_records.specs.Packs.{Pack}
use Rattle.disk_records.specs.declared.shape.Shape.{Shape}
use Rattle.pack_model.specs.hints.Links.{dir_slots, dir_words}
use Rattle.pack_model.specs.reading.Bodies.{File, found}
use Rattle.pack_model.specs.reading.Files.{file_bytes, lives, place}
use Rattle.pack_model.specs.reading.Namings.{Naming}
use Rattle.pack_model.specs.reading.Sights.{sights}
use Rattle.pack_model.specs.reading.SlotWords.{SlotAt}
use Rattle.pack_model.specs.reading.Slots.{Item, SlotsReachEnd, all_words, item_words, slots}
use Rattle.pack_model.specs.reading.Slots.Item.{space, entry}
use Rattle.scav_names.specs.declared.catalogue.Catalogue.{Catalogue}
use Rattle.scav_names.specs.declared.placed.PlacedEntry.{PlacedEntry}
use Rattle.scav_names.specs.Living.{living_files}
use Rattle.scav_names.specs.Rooms.{HasSlots}

-- ---- entries where they stand
abbrev pub with_entry : Fid → ℕ → ℕ → Item → List PlacedEntry → List PlacedEntry
with_entry d place address (space n) rest = rest
with_entry d place address (entry f name) rest = record { dir = d; place = place; fid = f; leader_at = address; name = name } ∷ rest

-- the entries among slots of a directory
abbrev pub entries_among : Fid → List SlotAt → List PlacedEntry
entries_among d [] = []
entries_among d (s ∷ ss) = with_entry d s.place s.address s.item (entries_among d ss)

-- those of a living file, if it is a directory
abbrev pub file_entries : Pack → Fid → List PlacedEntry
file_entries p d = cond (is_directory d) (entries_among d (dir_slots p d)) []

-- those of these files, one after another
abbrev pub entries_of : Pack → List (Fid × File) → List PlacedEntry
entries_of p [] = []
entries_of p (e ∷ es) = file_entries p e.0 ++ entries_of p es

-- all entries of a pack, in the order of the scan
abbrev pub pack_entries : Pack → List PlacedEntry
pack_entries p = entries_of p (entries (found (sights p)))

-- an entry without its place and its address
abbrev pub naming_of : PlacedEntry → Naming
naming_of e = record { dir = e.dir; name = e.name; fid = e.fid }

-- ---- SysDir
-- its slots; none where it doesn't live
abbrev pub root_slots : Pack → List Item
root_slots p = cond (lives (sights p) sys_dir) (slots (dir_words p sys_dir)) []

-- these are the sectors of its first data pages
abbrev pub ArePagesOf : Pack → Fid → List ℕ → Type 0
ArePagesOf p d pages = (n : ℕ) → n < length pages → place (sights p) d (suc n) ≡ Some (get_or pages n 0)

-- where its slots reach the end of its bytes, and the page that this end is in is there, they are those of all its data pages
abbrev pub HasPageCount : Pack → List ℕ → Type 0
HasPageCount p pages = lives (sights p) sys_dir ≡ true → SlotsReachEnd (file_bytes (sights p) sys_dir) → (at : ℕ) → place (sights p) sys_dir (all_words (root_slots p) / 256 + 1) ≡ Some at → length pages ≡ all_words (root_slots p) / 256 + 1

-- each of these is the address of a sector that can carry a page
abbrev pub AreSectors : Shape → List ℕ → Type 0
AreSectors form pages = All (λ at. (1 ≤ at) × (at < pages_of form)) pages

-- ---- what is read
-- It takes one slot more of a directory.
pub record TakesSlot (d : Fid) (s : SlotAt) (old new : Catalogue) : Type 0 where
  pub living : new.living ≡ old.living
  pub entries_are : new.entries ≡ old.entries ++ entries_among d (s ∷ [])
  pub pages : new.root_pages ≡ old.root_pages
  pub rooms : (is : List Item) → HasSlots old.rooms is → all_words is + item_words s.item < 2 ^ 32 → HasSlots new.rooms (cond (is_fid d sys_dir) (is ++ s.item ∷ []) is)

-- The names are those of the pack.
pub record HoldsNames (p : Pack) (names : Catalogue) : Type 0 where
  pub living : names.living ≡ living_files p
  pub entries_are : names.entries ≡ pack_entries p
  pub rooms : HasSlots names.rooms (root_slots p)
  pub pages : ArePagesOf p sys_dir names.root_pages
  pub page_count : HasPageCount p names.root_pages
