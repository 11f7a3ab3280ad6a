-- The zones that can be: blocks that fill the words up to the end of a zone, and of which adjacent free ones are joined.
use Rattle.std.specs.Prelude.{◌≡◌, ◌≤◌, ◌<◌, ℕ, ◌+◌, Bool, true, false, List, [], ◌∷◌}
use Rattle.world_model.specs.Zones.{Block, gap, live, block_size}
use Rattle.world_model.specs.ZoneWords.{memory_length, tag_size, zone_start}

-- ---- where a zone may end
-- At an even word after its start, within the memory.
pub record IsTop (top : ℕ) : Type 0 where
  pub after : zone_start < top
  pub even : tag_size top ≡ top
  pub most : top ≤ memory_length

-- ---- blocks that fill it
-- of an even number of words, and of some
abbrev pub CanStand : Block → Type 0
CanStand b = (1 ≤ block_size b) × (tag_size (block_size b) ≡ block_size b)

abbrev pub EachCanStand : List Block → Type 0
EachCanStand [] = Unit {0}
EachCanStand (b ∷ bs) = CanStand b × EachCanStand bs

-- no free block follows a free one, nor does the first one where one stands before it
abbrev pub AreJoined : Bool → List Block → Type 0
AreJoined after_gap [] = Unit {0}
AreJoined after_gap (gap n ∷ bs) = (after_gap ≡ false) × AreJoined true bs
AreJoined after_gap (live words ∷ bs) = AreJoined false bs

abbrev pub zone_size : List Block → ℕ
zone_size [] = 0
zone_size (b ∷ bs) = block_size b + zone_size bs

-- These blocks fill the zone that ends before the word `top`, and adjacent free ones are joined.
pub record FillZone (top : ℕ) (zone : List Block) : Type 0 where
  pub each : EachCanStand zone
  pub joined : AreJoined false zone
  pub size : zone_start + zone_size zone ≡ top

-- ---- the free block at the end of some blocks: its words, if there is one, and the blocks before it
abbrev pub last_gap : List Block → ℕ
last_gap [] = 0
last_gap (gap n ∷ []) = n
last_gap (gap n ∷ b ∷ bs) = last_gap (b ∷ bs)
last_gap (live words ∷ bs) = last_gap bs

abbrev pub front_of : List Block → List Block
front_of [] = []
front_of (gap n ∷ []) = []
front_of (gap n ∷ b ∷ bs) = gap n ∷ front_of (b ∷ bs)
front_of (live words ∷ bs) = live words ∷ front_of bs

-- and that with which they begin, and the blocks after it
abbrev pub first_gap : List Block → ℕ
first_gap [] = 0
first_gap (gap n ∷ bs) = n
first_gap (live words ∷ bs) = 0

abbrev pub back_of : List Block → List Block
back_of [] = []
back_of (gap n ∷ bs) = bs
back_of (live words ∷ bs) = live words ∷ bs
