-- The names of a pack as far as its rows were met.
use Rattle.std.specs.Prelude.{◌≡◌, ◌≢◌, ◌⊎◌, ℕ, ◌+◌, ◌/◌, ◌^◌, ◌<◌, ◌≤◌, ◌++◌, ◌&&◌, Bool, T, map, true, false, cond, List, [], ◌∷◌, length, take, Option, Some, None}
use Rattle.std.specs.FinMap.{entries, find, is_sorted}
use Rattle.alto_words.specs.declared.fid.Fid.{Fid}
use Rattle.alto_words.specs.Fid.{fid_cmp, is_directory, is_fid, sys_dir}
use Rattle.dir_slots.specs.Walks as slot_walk
use Rattle.dir_slots.specs.Walks.{placed_slots}
use Rattle.disk_records.specs.Packs.{Pack, sector_at}
use Rattle.disk_records.specs.Words.{word}
use Rattle.pack_model.specs.hints.Links.{dir_words}
use Rattle.pack_model.specs.reading.Bodies.{File, found}
use Rattle.pack_model.specs.reading.Files.{place}
use Rattle.pack_model.specs.reading.Leaders.{leader_of}
use Rattle.pack_model.specs.reading.Sights.{sights}
use Rattle.pack_model.specs.reading.SlotWords.{SlotAt}
use Rattle.pack_model.specs.reading.Slots.{Item, all_words, slots}
use Rattle.scav_pages.specs.Walks.{AreWords, NoneAbove, Walked, file_in_hand}
use Rattle.scav_table.specs.declared.row.Row.{Row}
use Rattle.scav_table.specs.Rows.{is_above, row_at}
use Rattle.scav_names.specs.declared.catalogue.Catalogue.{Catalogue}
use Rattle.scav_names.specs.declared.placed.PlacedEntry.{PlacedEntry}
use Rattle.scav_names.specs.declared.read.Reading.{Reading}
use Rattle.scav_names.specs.Catalogues.{ArePagesOf, HasPageCount, entries_among, entries_of, file_entries, root_slots}
use Rattle.scav_names.specs.Living.{living_of}
use Rattle.scav_names.specs.Rooms.{HasSlots}

-- ---- living files
-- A living file whose leader page was met: in the lowest sector that carries it, which is at or below `last`.
pub record IsMetFile (p : Pack) (last : Option Row) (e : Fid × File) : Type 0 where
  pub found : find fid_cmp e.0 (entries (found (sights p))) ≡ Some e.1
  pub row : Row
  pub words : AreWords row
  pub seated : place (sights p) e.0 0 ≡ Some row.at
  pub page : row.page ≡ record { fid = e.0; number = 0 }
  pub passed : is_above last row ≡ false

abbrev pub AreMet : Pack → Option Row → List (Fid × File) → Type 0
AreMet p last [] = Unit {0}
AreMet p last (e ∷ es) = IsMetFile p last e × AreMet p last es

-- the leader page of a file, if it lives, comes after `last`
abbrev pub LeaderAhead : Pack → Option Row → Fid → Type 0
LeaderAhead p last f = (at : ℕ) (r : Row) → place (sights p) f 0 ≡ Some at → row_at p at ≡ Some r → is_above last r ≡ true

-- these are the living files whose leader pages were met, rising by full name
pub record FilesMet (p : Pack) (last : Option Row) (met : List (Fid × File)) : Type 0 where
  pub sorted : T (is_sorted fid_cmp met)
  pub each : AreMet p last met
  pub ahead : (f : Fid) → find fid_cmp f met ≡ None → LeaderAhead p last f

-- ---- the words of the file in hand
-- Of a living directory these words were given: all in the pages that were met, and others only after a slot that can't be read.
pub record IsGiven (p : Pack) (d : Fid) (reading : Reading) (given : List ℕ) : Type 0 where
  pub rest : List ℕ
  pub words : take (reading.walk.length / 2) (dir_words p d) ≡ given ++ rest
  pub all : reading.slots.ended ≡ false → rest ≡ []

-- and none of another file
pub record HasGiven (p : Pack) (reading : Reading) (given : List ℕ) : Type 0 where
  pub walked : slot_walk.Walked given reading.slots
  pub start : file_in_hand reading.walk ≡ None → given ≡ []
  pub none : (d : Fid) → file_in_hand reading.walk ≡ Some d → (reading.walk.lives && is_directory d) ≡ false → given ≡ []
  pub words : (d : Fid) → file_in_hand reading.walk ≡ Some d → (reading.walk.lives && is_directory d) ≡ true → IsGiven p d reading given

-- ---- entries
-- the entries of the file in hand, of whose words these were given, and all of them
abbrev pub entries_in_hand : Option Fid → List ℕ → List PlacedEntry
entries_in_hand None given = []
entries_in_hand (Some d) given = entries_among d (placed_slots given)

abbrev pub entries_of_hand : Pack → Option Fid → Bool → List PlacedEntry
entries_of_hand p None living = []
entries_of_hand p (Some d) living = cond living (file_entries p d) []

-- those of the files before the one in hand, and of this so far
pub record EntriesMet (p : Pack) (met : List (Fid × File)) (reading : Reading) (given : List ℕ) : Type 0 where
  pub before : List PlacedEntry
  pub entries_are : reading.catalogue.entries ≡ before ++ entries_in_hand (file_in_hand reading.walk) given
  pub all : entries_of p met ≡ before ++ entries_of_hand p (file_in_hand reading.walk) reading.walk.lives

-- ---- SysDir
-- Its slots and pages so far, while it is in hand.
pub record RootInHand (p : Pack) (reading : Reading) (given : List ℕ) : Type 0 where
  pub rooms : HasSlots reading.catalogue.rooms (slots given)
  pub pages : ArePagesOf p sys_dir reading.catalogue.root_pages
  pub none : reading.walk.lives ≡ false → reading.catalogue.root_pages ≡ []
  pub count : reading.walk.lives ≡ true → reading.slots.ended ≡ false → length reading.catalogue.root_pages ≡ reading.walk.pages

-- all of them, once it was left
pub record RootPassed (p : Pack) (last : Option Row) (names : Catalogue) : Type 0 where
  pub passed : NoneAbove p last sys_dir
  pub few : all_words (root_slots p) ≤ 16776960
  pub rooms : HasSlots names.rooms (root_slots p)
  pub pages : ArePagesOf p sys_dir names.root_pages
  pub page_count : HasPageCount p names.root_pages

-- none, before it comes
pub record RootAhead (p : Pack) (last : Option Row) (names : Catalogue) : Type 0 where
  pub ahead : (at : ℕ) (r : Row) → row_at p at ≡ Some r → r.page.fid ≡ sys_dir → is_above last r ≡ true
  pub rooms : HasSlots names.rooms []
  pub pages : names.root_pages ≡ []

pub record RootMet (p : Pack) (last : Option Row) (reading : Reading) (given : List ℕ) : Type 0 where
  pub hand : file_in_hand reading.walk ≡ Some sys_dir → RootInHand p reading given
  pub other : file_in_hand reading.walk ≢ Some sys_dir → RootPassed p last reading.catalogue ⊎ RootAhead p last reading.catalogue

-- ---- all that was read
-- the rows up to `last` were met, and what was read is that of the files before the one in hand, and of this so far
pub record HasReadTo (p : Pack) (last : Option Row) (reading : Reading) : Type 0 where
  pub walked : Walked p last reading.walk
  pub met : List (Fid × File)
  pub files : FilesMet p last met
  pub living : reading.catalogue.living ≡ map (living_of (sights p)) met
  pub given : List ℕ
  pub words : HasGiven p reading given
  pub entries_are : EntriesMet p met reading given
  pub root : RootMet p last reading given

-- ---- one page of a directory
-- the words of a sector's value that its label counts
abbrev pub counted_words : Pack → ℕ → List ℕ
counted_words p at = take (word (sector_at p at).label 3 / 2) (sector_at p at).value

-- From the words `before` on to the words `after` these slots were met of a directory.
pub record MeetsSlots (d : Fid) (before after : List ℕ) (old new : Catalogue) (walk : slot_walk.Walking) : Type 0 where
  pub slots : List SlotAt
  pub walked : slot_walk.Walked after walk
  pub placed : placed_slots after ≡ placed_slots before ++ slots
  pub entries_are : new.entries ≡ old.entries ++ entries_among d slots
  pub rooms : (is : List Item) → HasSlots old.rooms is → all_words is + all_words (map (λ s. s.item) slots) < 2 ^ 32 → HasSlots new.rooms (cond (is_fid d sys_dir) (is ++ map (λ s. s.item) slots) is)

-- All its words were given to the slot walk, and the slots that end in it were met: their entries are kept, and those of SysDir are in its room.
pub record ReadsPage (p : Pack) (row : Row) (old new : Reading) : Type 0 where
  pub walk : new.walk ≡ old.walk
  pub living : new.catalogue.living ≡ old.catalogue.living
  pub met : (given : List ℕ) → slot_walk.Walked given old.slots → MeetsSlots row.page.fid given (given ++ counted_words p row.at) old.catalogue new.catalogue new.slots

-- The sector of a data page is kept, if it is SysDir's.
abbrev pub KeepsSector : Row → Catalogue → Catalogue → Type 0
KeepsSector row old new = new.root_pages ≡ old.root_pages ++ cond (is_fid row.page.fid sys_dir) (row.at ∷ []) []

-- ---- one leader page
-- The file is kept, with the name in its leader page, and no more.
pub record ReadsLeader (p : Pack) (row : Row) (old new : Reading) : Type 0 where
  pub walk : new.walk ≡ old.walk
  pub slots_are : new.slots ≡ old.slots
  pub living : new.catalogue.living ≡ old.catalogue.living ++ record { fid = row.page.fid; leader_at = row.at; name = (leader_of row.page.fid (sector_at p row.at).value).name } ∷ []
  pub entries_are : new.catalogue.entries ≡ old.catalogue.entries
  pub rooms : new.catalogue.rooms ≡ old.catalogue.rooms
  pub pages : new.catalogue.root_pages ≡ old.catalogue.root_pages
