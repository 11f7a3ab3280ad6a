-- A free block in the words of a memory.
use Rattle.std.specs.Prelude.{◌≡◌, ◌≤◌, ℕ, ◌+◌, List, drop, length, slice_index, take}
use Rattle.laws_zone.specs.world_model.specs.Zones.{gap}
use Rattle.laws_zone.specs.world_model.specs.ZoneWords.{block_words, tag_size}

-- It stands there, of `size` words at least, an even number.
pub record IsGapAt (memory : List ℕ) (at size : ℕ) : Type 0 where
  pub some : 1 ≤ size
  pub fits : size ≤ slice_index memory at
  pub even : tag_size size ≡ size
  pub words : take (slice_index memory at) (drop at memory) ≡ block_words (gap (slice_index memory at))
  pub within : at + slice_index memory at ≤ length memory
