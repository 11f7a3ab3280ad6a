-- A block is taken.
use Rattle.std.specs.Prelude.{◌≡◌, ◌≤◌, ◌<◌, ℕ, ◌+◌, List, [], ◌∷◌, ◌++◌, Some, None, drop, length, slice_index, take}
use Rattle.laws_zone.specs.world_model.specs.Zones.{Block, gap, live, largest_gap, size_for, taken}
use Rattle.laws_zone.specs.world_model.specs.ZoneWords.{block_words, zone_in, zone_start}
use Rattle.laws_zone.specs.Filling.{zone_size}
use Rattle.laws_zone.specs.PlaceLaws.{NowHas}
use Rattle.zones.specs.declared.errors.ZoneError.{ZoneError}
use Rattle.zones.specs.declared.errors.ZoneError.TheVariants.{NoRoom}

-- The zone has the blocks after one of n usable words was taken from the lowest free block with room for it. Its first usable word is at `at`.
pub record Takes (top n : ℕ) (old new : List ℕ) (at : ℕ) : Type 0 where
  pub blocks : List Block
  pub taken_is : taken zone_start (size_for n) (zone_in top old) ≡ Some (record { at = at; blocks = blocks })
  pub now : NowHas top old new blocks

-- No free block has so many words, and this is the most usable ones that one has.
pub record NoRoomFor (top size : ℕ) (memory : List ℕ) (largest : ℕ) : Type 0 where
  pub none : taken zone_start size (zone_in top memory) ≡ None
  pub largest_is : largest ≡ largest_gap (zone_in top memory)

abbrev pub IsNoRoom : ℕ → ℕ → List ℕ → ZoneError → Type 0
IsNoRoom top n memory (NoRoom largest) = NoRoomFor top (size_for n) memory largest

-- ---- inside
-- no free block has so many words
abbrev pub NoneFits : ℕ → List Block → Type 0
NoneFits size [] = Unit {0}
NoneFits size (gap n ∷ bs) = (n < size) × NoneFits size bs
NoneFits size (live words ∷ bs) = NoneFits size bs

-- The tag of the lowest free block of so many words is there.
pub record FindsGap (top : ℕ) (memory : List ℕ) (size at : ℕ) : Type 0 where
  pub before : List Block
  pub n : ℕ
  pub after : List Block
  pub zone : zone_in top memory ≡ before ++ gap n ∷ after
  pub place : at ≡ zone_start + zone_size before
  pub lowest : NoneFits size before
  pub fits : size ≤ n
  pub tag : slice_index memory at ≡ n
  pub words : take n (drop at memory) ≡ block_words (gap n)
  pub within : at + n ≤ length memory
