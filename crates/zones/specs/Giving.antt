-- A block is given back.
use Rattle.std.specs.Prelude.{◌≡◌, ℕ, suc, ◌+◌, List, ◌∷◌, ◌++◌, Some, length}
use Rattle.laws_zone.specs.world_model.specs.Zones.{Block, live, given_back}
use Rattle.laws_zone.specs.world_model.specs.ZoneWords.{zone_in, zone_start}
use Rattle.laws_zone.specs.Filling.{first_gap, last_gap, zone_size}
use Rattle.laws_zone.specs.PlaceLaws.{NowHas}
use Rattle.zones.specs.declared.giving.Span.{Span}

-- The zone has the blocks after the one with this first usable word was given back.
pub record GivesBack (top at : ℕ) (old new : List ℕ) : Type 0 where
  pub blocks : List Block
  pub given : given_back zone_start at (zone_in top old) ≡ Some blocks
  pub now : NowHas top old new blocks

-- ---- inside
-- The used block with this first usable word is there, and the span has its words and those of the free blocks beside it.
pub record FindsUsed (top at : ℕ) (memory : List ℕ) (span : Span) : Type 0 where
  pub before : List Block
  pub words : List ℕ
  pub after : List Block
  pub zone : zone_in top memory ≡ before ++ live words ∷ after
  pub place : at ≡ zone_start + zone_size before + 1
  pub from : span.from + last_gap before ≡ zone_start + zone_size before
  pub end : span.end ≡ zone_start + zone_size before + suc (length words) + first_gap after
