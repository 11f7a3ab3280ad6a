-- Words that may be stored to, in the memory.
use Rattle.std.specs.Prelude.{◌≡◌, ◌≤◌, ◌<◌, ℕ, List, Some, set, take, true}
use Rattle.world_model.specs.disk_records.specs.Words.{word}
use Rattle.world_model.specs.Zones.{zone_set}
use Rattle.world_model.specs.ZoneWords.{IsMemory, is_inside, storable_word, zone_in, zone_start}
use Rattle.laws_zone.specs.Filling.{IsTop}
use Rattle.laws_zone.specs.PlaceLaws.{NowHas}

-- the word that may be stored to is the word of the memory
abbrev pub StorableWordsAreRead : Type 0
StorableWordsAreRead = (top at x : ℕ) (memory : List ℕ) → IsTop top → IsMemory top memory → storable_word memory (zone_in top memory) at ≡ Some x → word memory at ≡ x

-- another one in the place of a word of a used block: it is another in the block, and all else stays
abbrev pub BlockWordsAreStored : Type 0
BlockWordsAreStored = (top at x : ℕ) (memory : List ℕ) → IsTop top → IsMemory top memory → zone_start ≤ at → is_inside top memory at ≡ true → NowHas top memory (set memory at x) (zone_set zone_start at x (zone_in top memory))

-- The memory has the same zone, and of the user's words that one is another.
pub record StoresUserWord (top at x : ℕ) (old new : List ℕ) : Type 0 where
  pub memory : IsMemory top new
  pub zone : zone_in top new ≡ zone_in top old
  pub user : take zone_start new ≡ set (take zone_start old) at x

-- and one in the place of a word of the user's
abbrev pub UserWordsAreStored : Type 0
UserWordsAreStored = (top at x : ℕ) (memory : List ℕ) → IsTop top → IsMemory top memory → at < zone_start → StoresUserWord top at x memory (set memory at x)

-- so one in the place of any word that may be stored to leaves a memory
abbrev pub StoresInsideLeaveAMemory : Type 0
StoresInsideLeaveAMemory = (top at x : ℕ) (memory : List ℕ) → IsTop top → IsMemory top memory → is_inside top memory at ≡ true → IsMemory top (set memory at x)
