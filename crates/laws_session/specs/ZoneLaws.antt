-- The zone of a world in the words of its memory.
use Rattle.std.specs.Prelude.{◌≡◌, ◌≤◌, ℕ, map, List, length, None}
use Rattle.laws_line.specs.pack_model.specs.reading.Bytes.{words_of}
use Rattle.laws_line.specs.pack_model.specs.reading.Model.{Model}
use Rattle.session_model.specs.exec_words.specs.declared.line.Line.{Line}
use Rattle.session_model.specs.world_model.specs.Levels.{IsAtLevel, all_levels, level_base}
use Rattle.session_model.specs.world_model.specs.StateFiles.{message_length}
use Rattle.session_model.specs.world_model.specs.ZoneWords.{zone_start}
use Rattle.session_model.specs.Keeping.{Kept, stream_of, world_of}
use Rattle.session_model.specs.Refusals.{no_world}
use Rattle.session_model.specs.Replies.{next}
use Rattle.session_model.specs.Worlds.{World, fresh_world, loaded_world, memory_words}
use Rattle.laws_zone.specs.Filling.{FillZone}

-- ---- a world that is kept
-- The words of this world are kept, and the rest of it.
pub record KeepsWorld (k : Kept) (w : World) : Type 0 where
  pub moment : k.moment ≡ w.moment
  pub level : k.level ≡ w.level
  pub memory : k.memory ≡ memory_words w
  pub streams : map stream_of k.streams ≡ w.streams
  pub need : k.need ≡ w.need

-- then it is the world that is kept
abbrev pub WorldsAreKept : Type 0
WorldsAreKept = (k : Kept) (w : World) → length w.user ≡ zone_start → FillZone (level_base w.level) w.zone → KeepsWorld k w → world_of k ≡ w

-- ---- worlds with a memory
-- The level is one of the table, so many words are the user's, and the blocks fill the zone, which ends at the base of the level.
pub record HasMemory (w : World) : Type 0 where
  pub least : 1 ≤ w.level
  pub most : w.level ≤ all_levels
  pub user : length w.user ≡ zone_start
  pub fills : FillZone (level_base w.level) w.zone

-- such is the world that is kept with a memory of its level, and that of a session as it begins
abbrev pub KeptWorldsHaveAMemory : Type 0
KeptWorldsHaveAMemory = (k : Kept) → IsAtLevel k.level k.memory → HasMemory (world_of k)

abbrev pub FreshWorldsHaveAMemory : Type 0
FreshWorldsHaveAMemory = (moment : ℕ) → HasMemory (fresh_world moment)

-- that of a file that is one of a whole world, with a message of at most 40 bytes
abbrev pub LoadedWorldsHaveAMemory : Type 0
LoadedWorldsHaveAMemory = (w : World) (bytes message : List ℕ) → no_world bytes ≡ None → length message ≤ message_length → HasMemory (loaded_world w (words_of bytes) message)

-- and that after any line, refused or not
abbrev pub LinesLeaveAMemory : Type 0
LinesLeaveAMemory = (l : Line) (m : Model) (w : World) → HasMemory w → HasMemory (next l m w)
