-- What becomes of the blocks of a zone as one is taken or given back, or a word is another.
use Rattle.std.specs.Prelude.{◌≡◌, ℕ, ◌+◌, false, List, ◌∷◌, ◌++◌, Some}
use Rattle.world_model.specs.Zones.{Block, Taken, gap, live, given_back, joined_gaps, size_for, taken, zone_set}
use Rattle.world_model.specs.ZoneWords.{zone_start}
use Rattle.laws_zone.specs.Filling.{AreJoined, FillZone, back_of, first_gap, front_of, last_gap}

-- the blocks after one is taken fill the same zone
abbrev pub TakenFillsTheZone : Type 0
TakenFillsTheZone = (top n : ℕ) (zone : List Block) (t : Taken) → FillZone top zone → taken zone_start (size_for n) zone ≡ Some t → FillZone top t.blocks

-- so do those after one is given back
abbrev pub GivenBackFillsTheZone : Type 0
GivenBackFillsTheZone = (top at : ℕ) (zone left : List Block) → FillZone top zone → given_back zone_start at zone ≡ Some left → FillZone top left

-- and those in which a word is another
abbrev pub WordFillsTheZone : Type 0
WordFillsTheZone = (top at x : ℕ) (zone : List Block) → FillZone top zone → FillZone top (zone_set zone_start at x zone)

-- a used block of a zone that becomes free is one with the free blocks beside it, and no other block changes
abbrev pub FreedBlocksJoin : Type 0
FreedBlocksJoin = (size : ℕ) (words : List ℕ) (before after : List Block) → AreJoined false (before ++ live words ∷ after)
    → joined_gaps (before ++ gap size ∷ after) ≡ front_of before ++ gap (last_gap before + size + first_gap after) ∷ back_of after
