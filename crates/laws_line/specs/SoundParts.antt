-- The first operations of a line from a sound pack, the last of them perhaps broken off.
use Rattle.std.specs.Prelude.{List, Some, false, length, take, ℕ, ◌++◌, ◌<◌, ◌≡◌, ◌≤◌}
use Rattle.laws_room.specs.alto_words.specs.Fid.{disk_descriptor}
use Rattle.disk_records.specs.Events.{IsFirstOf}
use Rattle.disk_records.specs.Packs.{Pack, after, sector_at}
use Rattle.disk_records.specs.declared.records.Event.{Event}
use Rattle.pack_model.specs.operations.Committing.{line_moves, moves_of_all, open_moves, pages_for_operations}
use Rattle.pack_model.specs.operations.Operations.{Move}
use Rattle.pack_model.specs.operations.Step.{Operation}
use Rattle.pack_model.specs.reading.Files.{place}
use Rattle.pack_model.specs.reading.Model.{Model, read_as}
use Rattle.pack_model.specs.reading.Sights.{sights}
use Rattle.pack_model.specs.scavenger.Scavenging.{Throughout, Unmarked}
use Rattle.pack_model.specs.sessions.Descriptor.{ending_moves, open_writes}
use Rattle.pack_model.specs.sessions.Meanings.{Mendable, operating, session}
use Rattle.pack_model.specs.sessions.Moves.{IsStartOf, Obeys}
use Rattle.pack_model.specs.states.InUse.{free_sector_count}
use Rattle.pack_model.specs.states.Sound.{Sound, mark_of}
use Rattle.pack_model.specs.states.Whole.{Tidy, Whole}
use Rattle.laws_line.specs.CrashLaws.{Batch}
use Rattle.laws_line.specs.Ready.{steps_of}
use Rattle.laws_line.specs.SoundLines.{IsKindOfLine}

-- the moves of a line's first operations; the mark is opened before them, also while there is none yet
abbrev pub begun_moves : ℕ → Model → List Operation → List Operation → List Move
begun_moves mark m ops all = open_moves mark all ++ moves_of_all m ops

-- All record writes of the first operations, each with its new serial: each crash point is viewed and shown as the model there and can be
-- scavenged, as in the whole line, and their moves are a prefix of the line's. Afterwards the pack is read as the model there.
pub record PartOnSound (p : Pack) (events : List Event) (ops all : List Operation) : Type 0 where
  pub cuts : Throughout Mendable p events
  pub operating : Obeys operating (read_as p) p events (begun_moves (mark_of (sights p)) (read_as p) ops all)
  pub session : Obeys session (read_as p) p events (begun_moves (mark_of (sights p)) (read_as p) ops all)
  pub start : IsStartOf (begun_moves (mark_of (sights p)) (read_as p) ops all) (line_moves (mark_of (sights p)) (read_as p) all)
  pub reads : read_as (after p events) ≡ steps_of (read_as p) ops
  pub whole : Whole (after p events)
  pub tidy : Tidy (after p events)
  pub unmarked : Unmarked (after p events)

-- so it is where the whole line is one of the operating system, and the pages are there that it adds
abbrev pub PartOfALineOnASoundPack : Type 0
PartOfALineOnASoundPack = (p : Pack) (at : ℕ) (events : List Event) (ops more : List Operation) → let all : List Event = open_writes (mark_of (sights p)) at (sector_at p at).value ++ events in
    Sound p → place (sights p) disk_descriptor 1 ≡ Some at → 0 < length (ops ++ more) → IsKindOfLine (read_as p) (ops ++ more) → pages_for_operations (read_as p) (ops ++ more) ≤ free_sector_count (sights p)
    → Batch (after p (open_writes (mark_of (sights p)) at (sector_at p at).value)) events ops → PartOnSound p all ops (ops ++ more)

-- The line broke off within them: a prefix of their record writes make a prefix of the line's moves, and so of the moves of an end
-- of a session with these as its last operations.
pub record BreaksOnSound (p : Pack) (wrote : List Event) (all : List Operation) : Type 0 where
  pub moves : List Move
  pub cuts : Throughout Mendable p wrote
  pub operating : Obeys operating (read_as p) p wrote moves
  pub session : Obeys session (read_as p) p wrote moves
  pub are : moves ≡ take (length wrote) (line_moves (mark_of (sights p)) (read_as p) all)
  pub start : IsStartOf moves (line_moves (mark_of (sights p)) (read_as p) all)
  pub start_of_end : IsStartOf moves (ending_moves false (mark_of (sights p)) (read_as p) all)

-- so it is
abbrev pub BrokenLineOnASoundPack : Type 0
BrokenLineOnASoundPack = (p : Pack) (events wrote : List Event) (ops all : List Operation) → PartOnSound p events ops all → IsFirstOf events wrote → BreaksOnSound p wrote all
