-- The operations of one line, on models: each file that comes or is renamed leaves room for its name.
use Rattle.std.specs.FinMap.{contains_key}
use Rattle.std.specs.List.{list_any}
use Rattle.std.specs.Prelude.{List, [], false, length, true, ℕ, ◌++◌, ◌+◌, ◌∷◌, ◌≡◌, ◌≤◌}
use Rattle.laws_room.specs.alto_words.specs.Fid.{is_system}
use Rattle.laws_room.specs.alto_words.specs.Names.{is_same_name}
use Rattle.laws_room.specs.alto_words.specs.declared.fid.Fid.{Fid}
use Rattle.disk_records.specs.Packs.{Pack}
use Rattle.pack_model.specs.operations.Committing.{length_of, pages_for_operations}
use Rattle.pack_model.specs.scavenger.Mended.{HasRoom}
use Rattle.pack_model.specs.reading.Model.{Model, dir_items, read_as, room}
use Rattle.pack_model.specs.reading.Namings.{namings_in}
use Rattle.pack_model.specs.reading.Slots.{Item}
use Rattle.pack_model.specs.reading.Slots.Item.{entry}
use Rattle.pack_model.specs.states.Sound.{Sound}
use Rattle.pack_model.specs.operations.Step.{Operation, room_widening, spare_widening, step}
use Rattle.pack_model.specs.operations.Step.Operation.{cut, drop_file, enter, grow, leave, make, put, stamp, title, widen}
use Rattle.laws_line.specs.Ready.{Ready, ReadyThroughout, Settled, steps_of}

-- ---- what ready models are for
-- so the files as the Scavenger will find them have room
abbrev pub ReadyHasRoom : Type 0
ReadyHasRoom = (m : Model) → Ready m → HasRoom m

-- a sound pack is read as such a model, in which every file has a name
abbrev pub SoundIsSettled : Type 0
SoundIsSettled = (p : Pack) → Sound p → Settled (read_as p)

-- ---- operations that leave names as they are
-- bytes are put in the place of others alone; a name has at most 39 characters
abbrev pub LeavesNames : Model → Operation → Type 0
LeavesNames m (put f offset new) = offset + length new ≤ length_of m f
LeavesNames m (grow f new) = Unit {0}
LeavesNames m (cut f n) = Unit {0}
LeavesNames m (title f name) = length name ≤ 39
LeavesNames m (stamp f moment) = Unit {0}
LeavesNames m (widen d) = Unit {0}
LeavesNames m (make f name moment) = ⊥
LeavesNames m (drop_file f) = ⊥
LeavesNames m (leave d name) = ⊥
LeavesNames m (enter d name f) = ⊥

abbrev pub LeaveNames : Model → List Operation → Type 0
LeaveNames m [] = Unit {0}
LeaveNames m (o ∷ ops) = LeavesNames m o × LeaveNames (step m o) ops

-- Puts, growths, cuts, titles, dates and widenings, as in the lines that append, patch, cut, close a stream: enough that the pages that
-- they add are there.
abbrev pub ChangesLeaveRoom : Type 0
ChangesLeaveRoom = (m : Model) (ops : List Operation) → Settled m → LeaveNames m ops → pages_for_operations m ops ≤ room m → ReadyThroughout m ops

-- ---- a file goes
-- A full name that isn't a system file's; a file of this name, if there is one, has no entries of its own.
pub record MayGo (m : Model) (f : Fid) : Type 0 where
  pub no_system : is_system f ≡ false
  pub bare : namings_in f (dir_items m f) ≡ []

-- nothing is asked of free sectors or of SysDir
abbrev pub DropLeavesRoom : Type 0
DropLeavesRoom = (m : Model) (f : Fid) → Settled m → MayGo m f → ReadyThroughout m (drop_file f ∷ [])

-- ---- a file comes
-- SysDir gets a page where it has no run of free words for the longest entry, another directory where it has none for this one; then
-- the file is made and entered; and then come operations that leave names as they are
abbrev pub new_file_line : Model → Fid → List ℕ → Fid → ℕ → List Operation → List Operation
new_file_line m d name f moment rest = spare_widening m ++ room_widening m d name ++ make f name moment ∷ enter d name f ∷ rest

-- the model after the entering
abbrev pub with_new_file : Model → Fid → List ℕ → Fid → ℕ → Model
with_new_file m d name f moment = steps_of m (new_file_line m d name f moment [])

-- enough that the pages are there that the line adds, and that the name has at most 39 characters; where the entry finds no room it is
-- lacking still, and has its room in SysDir
abbrev pub NewFileLeavesRoom : Type 0
NewFileLeavesRoom = (m : Model) (d : Fid) (name : List ℕ) (f : Fid) (moment : ℕ) (rest : List Operation)
    → Settled m → length name ≤ 39 → contains_key m.files f ≡ false
    → LeaveNames (with_new_file m d name f moment) rest
    → pages_for_operations m (new_file_line m d name f moment rest) ≤ room m → ReadyThroughout m (new_file_line m d name f moment rest)

-- ---- a file is renamed
-- The first entry of the directory under this name, in whatever case, is of the file.
pub record IsEntered (m : Model) (d : Fid) (name : List ℕ) (f : Fid) : Type 0 where
  pub before : List Item
  pub own : List ℕ
  pub behind : List Item
  pub items_are : dir_items m d ≡ before ++ entry f own ∷ behind
  pub same : is_same_name own name ≡ true
  pub first : list_any (λ e. is_same_name e.name name) (namings_in d before) ≡ false

-- the same room, then the name in the leader, the entry that goes, and the one that comes
abbrev pub rename_line : Model → Fid → List ℕ → Fid → List ℕ → Fid → List Operation
rename_line m d old to name f = spare_widening m ++ room_widening m to name ++ title f name ∷ leave d old ∷ enter to name f ∷ []

abbrev pub RenameLeavesRoom : Type 0
RenameLeavesRoom = (m : Model) (d : Fid) (old : List ℕ) (to : Fid) (name : List ℕ) (f : Fid)
    → Settled m → IsEntered m d old f → length name ≤ 39 → is_system f ≡ false
    → pages_for_operations m (rename_line m d old to name f) ≤ room m → ReadyThroughout m (rename_line m d old to name f)
