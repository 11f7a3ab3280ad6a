-- Entries of what a pack is read as, and names that are free in its directories.
use Rattle.std.specs.List.{list_any}
use Rattle.std.specs.FinMap.{entries}
use Rattle.std.specs.Prelude.{Bool, List, false, not, true, ℕ, ◌&&◌, ◌++◌, ◌∷◌, ◌≡◌}
use Rattle.laws_contents.specs.alto_words.specs.Fid.{is_directory, is_fid}
use Rattle.laws_contents.specs.alto_words.specs.Names.{is_same_name}
use Rattle.laws_contents.specs.alto_words.specs.declared.fid.Fid.{Fid}
use Rattle.laws_contents.specs.disk_records.specs.Packs.{Pack}
use Rattle.laws_contents.specs.pack_model.specs.reading.Files.{lives}
use Rattle.laws_contents.specs.pack_model.specs.hints.Links.{dir_words}
use Rattle.laws_contents.specs.pack_model.specs.reading.Model.{Model, dir_items, is_named, read_as}
use Rattle.laws_contents.specs.pack_model.specs.reading.Namings.{IsTidy, clashes, namings}
use Rattle.laws_contents.specs.pack_model.specs.reading.Sights.{sights}
use Rattle.laws_contents.specs.pack_model.specs.reading.Slots.{Item, slots}
use Rattle.laws_contents.specs.pack_model.specs.reading.Slots.Item.{entry, space}
use Rattle.laws_contents.specs.pack_model.specs.operations.Step.{Operation, step}
use Rattle.laws_contents.specs.pack_model.specs.operations.Step.Operation.{cut, drop_file, enter, grow, leave, make, put, stamp, title, widen}
use Rattle.laws_contents.specs.pack_model.specs.states.Whole.{Tidy}

-- ---- slots
-- on a tidy pack the slots of a living directory in the model are those that stand there
abbrev pub ItemsAreSlots : Type 0
ItemsAreSlots = (p : Pack) (d : Fid) → Tidy p → lives (sights p) d ≡ true → is_directory d ≡ true → dir_items (read_as p) d ≡ slots (dir_words p d)

-- all entries of what any pack is read as are kept
abbrev pub ReadEntriesAreKept : Type 0
ReadEntriesAreKept = (p : Pack) → IsTidy (lives (sights p)) (read_as p).files

-- ---- names that are free
-- an entry of another file under this name, in whatever case
abbrev pub is_of_another : Fid → List ℕ → Item → Bool
is_of_another f name (space n) = false
is_of_another f name (entry g own) = not (is_fid g f) && is_same_name own name

-- no entry of a directory gives another file this name
abbrev pub IsOpenTo : Model → Fid → Fid → List ℕ → Type 0
IsOpenTo m d f name = list_any (is_of_another f name) (dir_items m d) ≡ false

-- an entry of this file under this name in this directory clashes with none of the model, as `apart` of `MayEnter` asks for it
abbrev pub IsApart : Model → Fid → Fid → List ℕ → Type 0
IsApart m d f name = list_any (clashes (record { dir = d; name = name; fid = f })) (namings (entries m.files)) ≡ false

-- an entry of a file without one, under a name that no entry of its directory gives another file, clashes with none of the model
abbrev pub FreeNameIsApartForANamelessFile : Type 0
FreeNameIsApartForANamelessFile = (m : Model) (d f : Fid) (name : List ℕ) → is_named m f ≡ false → IsOpenTo m d f name → IsApart m d f name

-- ---- files without an entry
-- no entry of what any pack is read as has a file that doesn't live
abbrev pub EntriesNameLivingFiles : Type 0
EntriesNameLivingFiles = (p : Pack) (f : Fid) → lives (sights p) f ≡ false → is_named (read_as p) f ≡ false

-- after the make of a file that didn't live no entry has it, on any pack
abbrev pub MakeLeavesNoName : Type 0
MakeLeavesNoName = (p : Pack) (f : Fid) (own : List ℕ) (moment : ℕ) → lives (sights p) f ≡ false → is_named (step (read_as p) (make f own moment)) f ≡ false

-- An entry of this file in a directory of the model, under this name in whatever case. Of what a pack is read as it is the only one
-- there under this name, so that it is the one that leaves by it; of other models the first one with the name leaves.
pub record HasName (m : Model) (d : Fid) (old : List ℕ) (f : Fid) : Type 0 where
  pub before : List Item
  pub behind : List Item
  pub own : List ℕ
  pub items : dir_items m d ≡ before ++ entry f own ∷ behind
  pub same : is_same_name own old ≡ true

-- after the leaving of a file's entry no other has the file, on any pack
abbrev pub LeaveTakesTheOnlyEntry : Type 0
LeaveTakesTheOnlyEntry = (p : Pack) (d f : Fid) (old : List ℕ) → HasName (read_as p) d old f → is_named (step (read_as p) (leave d old)) f ≡ false

-- ---- names that are free after a make and after a leaving, by the directories as they were before
-- after the make of a file that didn't live an entry of it clashes with none, under a name that no entry of its directory had, on any pack
abbrev pub FreeNameIsApartAfterMake : Type 0
FreeNameIsApartAfterMake = (p : Pack) (d f : Fid) (name own : List ℕ) (moment : ℕ) → lives (sights p) f ≡ false → IsOpenTo (read_as p) d f name → IsApart (step (read_as p) (make f own moment)) d f name

-- after the leaving of a file's entry another one of it clashes with none, in any directory where no other file had its name, on any pack
abbrev pub FreeNameIsApartAfterLeave : Type 0
FreeNameIsApartAfterLeave = (p : Pack) (d e f : Fid) (name old : List ℕ) → HasName (read_as p) d old f → IsOpenTo (read_as p) e f name → IsApart (step (read_as p) (leave d old)) e f name

-- ---- other operations
-- an operation on a file's bytes or leader, or a widening: not a make, a drop, a leaving or an entering
abbrev pub keeps_entries : Operation → Bool
keeps_entries (make f name moment) = false
keeps_entries (put f offset new) = true
keeps_entries (grow f new) = true
keeps_entries (cut f n) = true
keeps_entries (title f name) = true
keeps_entries (stamp f moment) = true
keeps_entries (drop_file f) = false
keeps_entries (leave d name) = false
keeps_entries (enter d name f) = false
keeps_entries (widen d) = true

-- after such an operation the entries of any model are the same, so that what clashed with none of them clashes with none still
abbrev pub BytesLeadersAndWideningsKeepEntries : Type 0
BytesLeadersAndWideningsKeepEntries = (m : Model) (o : Operation) → keeps_entries o ≡ true → namings (entries (step m o).files) ≡ namings (entries m.files)
