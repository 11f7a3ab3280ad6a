-- The lines of the operating system, from a sound pack.
use Rattle.std.specs.FinMap.{contains_key}
use Rattle.std.specs.Prelude.{List, Some, [], false, length, ℕ, ◌++◌, ◌<◌, ◌∷◌, ◌≡◌, ◌≤◌}
use Rattle.laws_room.specs.alto_words.specs.Fid.{disk_descriptor, is_system}
use Rattle.laws_room.specs.alto_words.specs.declared.fid.Fid.{Fid}
use Rattle.disk_records.specs.Packs.{Pack, after, sector_at}
use Rattle.disk_records.specs.declared.records.Event.{Event}
use Rattle.pack_model.specs.operations.Committing.{line_moves, pages_for_operations}
use Rattle.pack_model.specs.sessions.Descriptor.{open_writes}
use Rattle.pack_model.specs.reading.Files.{place}
use Rattle.pack_model.specs.states.InUse.{free_sector_count}
use Rattle.pack_model.specs.sessions.Meanings.{Mendable, operating, session}
use Rattle.pack_model.specs.reading.Model.{Model, read_as}
use Rattle.pack_model.specs.sessions.Moves.{Obeys}
use Rattle.pack_model.specs.scavenger.Scavenging.{Throughout, Unmarked}
use Rattle.pack_model.specs.reading.Sights.{sights}
use Rattle.pack_model.specs.states.Sound.{Sound, mark_of}
use Rattle.pack_model.specs.operations.Step.{Operation}
use Rattle.pack_model.specs.operations.Step.Operation.{drop_file}
use Rattle.laws_line.specs.AfterLaws.{IsDirectory}
use Rattle.laws_line.specs.LineLaws.{IsEntered, LeaveNames, MayGo, new_file_line, rename_line, with_new_file}
use Rattle.laws_line.specs.Ready.{steps_of}
use Rattle.laws_line.specs.CrashLaws.{Batch}

-- What the operations of a line are: changes that leave names as they are; a file that goes; one that is made and entered in a directory of
-- the model, and then changed; one that is renamed, into such a directory.
pub data IsKindOfLine (m : Model) : List Operation → Type 0 where
  changes : (ops : List Operation) → LeaveNames m ops → IsKindOfLine m ops
  goes : (f : Fid) → MayGo m f → IsKindOfLine m (drop_file f ∷ [])
  comes : (d : Fid) (name : List ℕ) (f : Fid) (moment : ℕ) (rest : List Operation) → IsDirectory m d → length name ≤ 39 → contains_key m.files f ≡ false → LeaveNames (with_new_file m d name f moment) rest
      → IsKindOfLine m (new_file_line m d name f moment rest)
  renamed : (d : Fid) (old : List ℕ) (to : Fid) (name : List ℕ) (f : Fid) → IsDirectory m to → IsEntered m d old f → length name ≤ 39 → is_system f ≡ false → IsKindOfLine m (rename_line m d old to name f)

-- Each cut of the line can be scavenged and is clean only where it is sound; its record writes make its moves, and each crash point is
-- viewed as the model there, and shows what it shows. After it the pack is read as the last model, and is sound again.
pub record LineOnSound (p : Pack) (events : List Event) (ops : List Operation) : Type 0 where
  pub cuts : Throughout Mendable p events
  pub operating : Obeys operating (read_as p) p events (line_moves (mark_of (sights p)) (read_as p) ops)
  pub session : Obeys session (read_as p) p events (line_moves (mark_of (sights p)) (read_as p) ops)
  pub reads : read_as (after p events) ≡ steps_of (read_as p) ops
  pub unmarked : Unmarked (after p events)
  pub sound : Sound (after p events)

-- So it is where there are at least as many free sectors as the line adds pages.
abbrev pub CrashesOfALineOnASoundPack : Type 0
CrashesOfALineOnASoundPack = (p : Pack) (at : ℕ) (events : List Event) (ops : List Operation) → let all : List Event = open_writes (mark_of (sights p)) at (sector_at p at).value ++ events in
    Sound p → place (sights p) disk_descriptor 1 ≡ Some at → 0 < length ops → IsKindOfLine (read_as p) ops → pages_for_operations (read_as p) ops ≤ free_sector_count (sights p)
    → Batch (after p (open_writes (mark_of (sights p)) at (sector_at p at).value)) events ops → LineOnSound p all ops
