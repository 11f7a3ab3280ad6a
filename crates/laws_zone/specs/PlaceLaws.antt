-- Blocks in the place of others in the words of a memory, and a zone that ends elsewhere.
use Rattle.std.specs.Prelude.{◌≡◌, ◌≤◌, ◌<◌, ℕ, ◌+◌, ◌-◌, List, [], ◌∷◌, ◌++◌, None, drop, replicate, take}
use Rattle.world_model.specs.Zones.{Block, gap, grown, left_before, shrunk, used_above}
use Rattle.world_model.specs.ZoneWords.{IsMemory, block_words, memory_length, with_zone, zone_in, zone_start, zone_words}
use Rattle.laws_zone.specs.Filling.{FillZone, IsTop, last_gap, zone_size}

-- The memory has a zone that ends there, of these blocks, and the user's words are as they were.
pub record NowHas (top : ℕ) (old new : List ℕ) (blocks : List Block) : Type 0 where
  pub memory : IsMemory top new
  pub zone : zone_in top new ≡ blocks
  pub user : take zone_start new ≡ take zone_start old

-- that names each word: no word outside the zone is another
abbrev pub OnlyTheZoneChanges : Type 0
OnlyTheZoneChanges = (top : ℕ) (old new : List ℕ) (blocks : List Block) → IsTop top → IsMemory top old → NowHas top old new blocks → new ≡ with_zone top old blocks

-- the words of other blocks in the place of some: the blocks before and after them stay, and so do the user's words
abbrev pub OtherBlocksStandInPlace : Type 0
OtherBlocksStandInPlace =
    (top : ℕ) (old new : List ℕ) (before some other after : List Block) → IsTop top → IsMemory top old → zone_in top old ≡ before ++ (some ++ after) → FillZone top (before ++ (other ++ after))
    → new ≡ take (zone_start + zone_size before) old ++ (zone_words other ++ drop (zone_start + zone_size before + zone_size some) old)
    → NowHas top old new (before ++ (other ++ after))

-- a free block from the last one of the zone up to another end: the zone has grown by the words between
abbrev pub ZonesGrow : Type 0
ZonesGrow =
    (top more from : ℕ) (old new : List ℕ) → IsTop top → IsTop more → top < more → IsMemory top old → from + last_gap (zone_in top old) ≡ top
    → new ≡ (take from old ++ block_words (gap (more - from))) ++ drop more old
    → NowHas more old new (grown (more - top) (zone_in top old))

-- The last block of the zone is free, begins at `from`, and ends past the word `low`.
pub record EndsInGap (top low : ℕ) (memory : List ℕ) (from : ℕ) : Type 0 where
  pub before : List Block
  pub n : ℕ
  pub zone : zone_in top memory ≡ before ++ gap n ∷ []
  pub place : from ≡ zone_start + zone_size before
  pub first : from ≤ low
  pub past : low < from + n

-- a free block from there up to that word, if there are words between, and zeros after it: the zone has shrunk to it
abbrev pub ZonesShrink : Type 0
ZonesShrink =
    (top low from : ℕ) (old new : List ℕ) → IsTop top → IsTop low → low ≤ top → IsMemory top old → EndsInGap top low old from → used_above low zone_start (zone_in top old) ≡ None
    → new ≡ take from old ++ (zone_words (left_before (low - from) []) ++ replicate (memory_length - low) 0)
    → NowHas low old new (shrunk (low - zone_start) (zone_in top old))
