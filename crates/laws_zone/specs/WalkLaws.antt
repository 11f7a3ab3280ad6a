-- A walk over the blocks of a zone, by the tags in the words of the memory.
use Rattle.std.specs.Prelude.{◌≡◌, ◌≤◌, ◌<◌, ℕ, suc, ◌+◌, Bool, true, false, List, [], ◌∷◌, ◌++◌, length}
use Rattle.world_model.specs.disk_records.specs.Words.{word}
use Rattle.world_model.specs.Zones.{Block, gap, live, block_size}
use Rattle.world_model.specs.ZoneWords.{IsMemory, is_gap_tag, tag_size, zone_in, zone_start}
use Rattle.laws_zone.specs.Filling.{CanStand, IsTop, zone_size}

-- ---- the tag of a block
abbrev pub tag_of : Block → ℕ
tag_of (gap n) = n
tag_of (live words) = suc (suc (length words))

abbrev pub is_gap : Block → Bool
is_gap (gap n) = true
is_gap (live words) = false

-- The tag of this block stands there, and says its size and whether it is free.
pub record HasTag (memory : List ℕ) (at : ℕ) (b : Block) : Type 0 where
  pub can : CanStand b
  pub tag : word memory at ≡ tag_of b
  pub size : tag_size (word memory at) ≡ block_size b
  pub kind : is_gap_tag (word memory at) ≡ is_gap b

-- ---- where a walk stands
-- It has passed these blocks of the zone, and the others are ahead of it.
pub record StandsBetween (top : ℕ) (memory : List ℕ) (at : ℕ) (before rest : List Block) : Type 0 where
  pub zone : zone_in top memory ≡ before ++ rest
  pub place : at ≡ zone_start + zone_size before

-- at first it has passed none
abbrev pub WalksBegin : Type 0
WalksBegin = (top : ℕ) (memory : List ℕ) → StandsBetween top memory zone_start [] (zone_in top memory)

-- The first of the blocks ahead stands there, with its tag, and ends within the zone.
pub record NextBlock (top : ℕ) (memory : List ℕ) (at : ℕ) (rest : List Block) : Type 0 where
  pub block : Block
  pub after : List Block
  pub is : rest ≡ block ∷ after
  pub has : HasTag memory at block
  pub within : at + block_size block ≤ top

-- before the end of the zone a block is ahead
abbrev pub WalksMeetABlock : Type 0
WalksMeetABlock = (top : ℕ) (memory : List ℕ) (at : ℕ) (before rest : List Block) → IsTop top → IsMemory top memory → StandsBetween top memory at before rest → at < top → NextBlock top memory at rest

-- after it the walk stands where it has passed it
abbrev pub WalksGoOn : Type 0
WalksGoOn = (top : ℕ) (memory : List ℕ) (at : ℕ) (before : List Block) (b : Block) (after : List Block) → StandsBetween top memory at before (b ∷ after) → StandsBetween top memory (at + block_size b) (before ++ b ∷ []) after

-- at the end of the zone none is ahead, and all are passed
abbrev pub WalksPassAll : Type 0
WalksPassAll = (top : ℕ) (memory : List ℕ) (at : ℕ) (before rest : List Block) → IsTop top → IsMemory top memory → StandsBetween top memory at before rest → top ≤ at → (rest ≡ []) × (zone_in top memory ≡ before)
