-- What a session keeps beside the files: the world.
-- OutLoad and InLoad are those of the SOSP 1979 paper; what a world is, is this project's choice.
use Rattle.std.specs.Prelude.{ℕ, ◌-◌, Bool, true, false, cond, nat_le, List, [], ◌∷◌, take, replicate, set, Option}
use Rattle.std.specs.Option.{unwrap_or}
use Rattle.exec_words.specs.alto_words.specs.Fid.{sys_dir}
use Rattle.world_model.specs.Zones.{Block, gap, zone_set}
use Rattle.world_model.specs.ZoneWords.{zone_start, zone_in, memory_of, storable_word}
use Rattle.world_model.specs.Levels.{all_levels, level_base, level_kept, zone_kept, zone_below_all}
use Rattle.world_model.specs.StateFiles.{state_bytes, state_level, state_memory, with_message}
use Rattle.session_model.specs.Streams.{Stream, new_stream, stream_at, with_stream, without_stream}

-- The moment of later dates; the level; the memory as the user's words and the blocks of the zone; the open streams by rising number;
-- whether a scavenge is needed.
pub record World : Type 0 where
  pub moment : ℕ
  pub level : ℕ
  pub user : List ℕ
  pub zone : List Block
  pub streams : List Stream
  pub need : Bool

-- as a session begins
abbrev pub fresh_world : ℕ → World
fresh_world moment = record {
  moment = moment;
  level = all_levels;
  user = replicate zone_start 0;
  zone = gap (level_base all_levels - zone_start) ∷ [];
  streams = [];
  need = false;
}

-- ---- its memory
abbrev pub memory_words : World → List ℕ
memory_words w = memory_of (level_base w.level) w.user w.zone

-- the word at this address, where it may be stored to
abbrev pub memory_word : World → ℕ → Option ℕ
memory_word w at = storable_word w.user w.zone at

abbrev pub world_with_zone : World → List Block → World
world_with_zone w zone = record w { zone = zone }

abbrev pub with_word : World → ℕ → ℕ → World
with_word w at x = cond (nat_le zone_start at) (world_with_zone w (zone_set zone_start at x w.zone)) (record w { user = set w.user at x })

-- ---- levels
abbrev pub junta_world : World → ℕ → World
junta_world w to = record w { level = level_kept w.level to; zone = zone_kept w.level to w.zone }

abbrev pub full_world : World → World
full_world w = record w { level = all_levels; zone = zone_below_all w.zone }

-- ---- its file
abbrev pub world_bytes : World → ℕ → List ℕ
world_bytes w mark = state_bytes mark w.level (memory_words w)

-- the world of these words of a file, which finds this message; streams, moment and need stay those of now
abbrev pub loaded_world : World → List ℕ → List ℕ → World
loaded_world w words message = record w {
  level = state_level words;
  user = with_message message (take zone_start (state_memory words));
  zone = zone_in (level_base (state_level words)) (state_memory words);
}

-- ---- its streams
-- the open one of this number
abbrev pub the_stream : ℕ → World → Stream
the_stream n w = unwrap_or (stream_at n w.streams) (new_stream n sys_dir)

abbrev pub stream_to : World → Stream → World
stream_to w s = record w { streams = with_stream s w.streams }

abbrev pub stream_gone : World → Stream → World
stream_gone w s = record w { streams = without_stream s.number w.streams }

-- ---- need
-- a hint failed: the streams are dropped, and a scavenge is needed
abbrev pub failed_world : World → World
failed_world w = record w { streams = []; need = true }

-- after a scavenge none is needed
abbrev pub mended_world : World → World
mended_world w = record w { need = false }
