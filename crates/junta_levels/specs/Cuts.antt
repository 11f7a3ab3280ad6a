-- A zone that is to end at an earlier word.
use Rattle.std.specs.Prelude.{◌≡◌, ℕ, ◌+◌, ◌-◌, Bool, cond, nat_lt, List, ◌++◌, Some, None, Result, Ok, Err, drop, set, take}
use Rattle.zones.specs.world_model.specs.Zones.{gap, used_above}
use Rattle.zones.specs.world_model.specs.ZoneWords.{block_words, zone_in, zone_start}
use Rattle.zones.specs.laws_zone.specs.PlaceLaws.{EndsInGap}

-- the last block is cut there, and no used block has that word or one after it; or the lowest one that has is this
abbrev pub FindsCut : ℕ → ℕ → List ℕ → Result ℕ ℕ → Type 0
FindsCut top low memory (Ok from) = EndsInGap top low memory from × (used_above low zone_start (zone_in top memory) ≡ None)
FindsCut top low memory (Err at) = used_above low zone_start (zone_in top memory) ≡ Some at

-- what a block that has the word is to the cut
abbrev pub in_block : Bool → ℕ → ℕ → ℕ → Result ℕ ℕ
in_block is_free here end top = cond is_free (cond (nat_lt end top) (Err (end + 1)) (Ok here)) (Err (here + 1))

-- the words then: a free block up to the new end, or no tag
abbrev pub after_cut : ℕ → ℕ → List ℕ → List ℕ
after_cut from low memory = cond (nat_lt from low) ((take from memory ++ block_words (gap (low - from))) ++ drop low memory) (set memory from 0)
