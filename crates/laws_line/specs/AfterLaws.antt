-- What is so after a line: every file has a name again, as the next line needs it, and directories are still there with their slots.
use Rattle.std.specs.FinMap.{contains_key, get}
use Rattle.std.specs.Prelude.{All, List, Some, [], false, length, true, ℕ, ◌++◌, ◌∷◌, ◌≡◌, ◌≤◌}
use Rattle.laws_room.specs.alto_words.specs.Fid.{is_directory, is_system, sys_dir}
use Rattle.laws_room.specs.alto_words.specs.declared.fid.Fid.{Fid}
use Rattle.disk_records.specs.Packs.{Pack}
use Rattle.pack_model.specs.reading.Bodies.Body.{items_of}
use Rattle.pack_model.specs.operations.Committing.{pages_for_operations}
use Rattle.pack_model.specs.reading.Leaders.{Leader}
use Rattle.pack_model.specs.reading.Model.{Model, read_as, room}
use Rattle.pack_model.specs.operations.Rooms.{most_free}
use Rattle.pack_model.specs.reading.Slots.{Item, item_words}
use Rattle.pack_model.specs.operations.Step.{Operation}
use Rattle.pack_model.specs.operations.Step.Operation.{drop_file}
use Rattle.laws_line.specs.LineLaws.{IsEntered, LeaveNames, MayGo, new_file_line, rename_line, with_new_file}
use Rattle.laws_line.specs.Ready.{ReadyThroughout, Settled, steps_of}

-- A directory of the model: it is there with its slots, each of at most 1,023 words.
pub record IsDirectory (m : Model) (d : Fid) : Type 0 where
  pub lead : Leader
  pub slots : List Item
  pub there : get m.files d ≡ Some (record { leader = lead; body = items_of slots })
  pub short : All (λ i. item_words i ≤ most_free) slots

-- The model is ready throughout the line and settled after it, and a directory that is still there is one.
pub record SettledAfter (m : Model) (ops : List Operation) : Type 0 where
  pub ready : ReadyThroughout m ops
  pub behind : Settled (steps_of m ops)
  pub directories : (d : Fid) → IsDirectory m d → contains_key (steps_of m ops).files d ≡ true → IsDirectory (steps_of m ops) d

-- ---- lines
-- puts, growths, cuts, titles, dates and widenings, and a file that goes, where they leave room
abbrev pub SettledAfterChanges : Type 0
SettledAfterChanges = (m : Model) (ops : List Operation) → Settled m → LeaveNames m ops → pages_for_operations m ops ≤ room m → SettledAfter m ops

abbrev pub SettledAfterDrop : Type 0
SettledAfterDrop = (m : Model) (f : Fid) → Settled m → MayGo m f → SettledAfter m (drop_file f ∷ [])

-- A new file in a directory of the model: there the entry finds room.
abbrev pub SettledAfterNewFile : Type 0
SettledAfterNewFile = (m : Model) (d : Fid) (name : List ℕ) (f : Fid) (moment : ℕ) (rest : List Operation)
    → Settled m → IsDirectory m d → length name ≤ 39 → contains_key m.files f ≡ false
    → LeaveNames (with_new_file m d name f moment) rest
    → pages_for_operations m (new_file_line m d name f moment rest) ≤ room m → SettledAfter m (new_file_line m d name f moment rest)

-- a renamed file whose new entry is in a directory of the model
abbrev pub SettledAfterRename : Type 0
SettledAfterRename = (m : Model) (d : Fid) (old : List ℕ) (to : Fid) (name : List ℕ) (f : Fid)
    → Settled m → IsDirectory m to → IsEntered m d old f → length name ≤ 39 → is_system f ≡ false
    → pages_for_operations m (rename_line m d old to name f) ≤ room m → SettledAfter m (rename_line m d old to name f)

-- ---- directories
-- a pack's directories are such, as the pack is read
abbrev pub DirectoriesAreRead : Type 0
DirectoriesAreRead = (p : Pack) (d : Fid) → is_directory d ≡ true → contains_key (read_as p).files d ≡ true → IsDirectory (read_as p) d

-- SysDir is one where every file has a name
abbrev pub RootIsDirectory : Type 0
RootIsDirectory = (m : Model) → Settled m → IsDirectory m sys_dir

-- and so is a new file with a directory's full name, after its line
abbrev pub NewDirectory : Type 0
NewDirectory = (m : Model) (d : Fid) (name : List ℕ) (f : Fid) (moment : ℕ) (rest : List Operation)
    → Settled m → is_directory f ≡ true → length name ≤ 39 → contains_key m.files f ≡ false → LeaveNames (with_new_file m d name f moment) rest
    → IsDirectory (steps_of m (new_file_line m d name f moment rest)) f

-- ---- the prefix of a line
-- where all of it is ready throughout, so is a prefix
abbrev pub PrefixReady : Type 0
PrefixReady = (m : Model) (ops more : List Operation) → ReadyThroughout m (ops ++ more) → ReadyThroughout m ops
