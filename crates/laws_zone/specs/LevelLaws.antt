-- What becomes of the blocks of a zone as levels go and come back.
use Rattle.std.specs.Prelude.{◌≡◌, ◌≤◌, ◌<◌, ℕ, List, None}
use Rattle.world_model.specs.Levels.{all_levels, level_base, level_kept, used_by_levels, zone_below_all, zone_kept}
use Rattle.world_model.specs.Zones.{Block}
use Rattle.world_model.specs.ZoneWords.{memory_length}
use Rattle.laws_zone.specs.Filling.{FillZone, IsTop}

-- a zone may end at the base of each level
abbrev pub BasesEndZones : Type 0
BasesEndZones = (level : ℕ) → level ≤ all_levels → IsTop (level_base level)

-- and of any number it is within the memory
abbrev pub BasesAreWithin : Type 0
BasesAreWithin = (level : ℕ) → level_base level ≤ memory_length

-- the base of a higher level is lower
abbrev pub BasesFall : Type 0
BasesFall = (low high : ℕ) → low < high → high ≤ all_levels → level_base high < level_base low

-- as levels go their words join the zone, which the blocks fill still
abbrev pub JuntaFillsTheZone : Type 0
JuntaFillsTheZone = (level to : ℕ) (zone : List Block) → level ≤ all_levels → FillZone (level_base level) zone → FillZone (level_base (level_kept level to)) (zone_kept level to zone)

-- and as all come back, where no used block stood in their words
abbrev pub CounterJuntaFillsTheZone : Type 0
CounterJuntaFillsTheZone = (level : ℕ) (zone : List Block) → level ≤ all_levels → used_by_levels zone ≡ None → FillZone (level_base level) zone → FillZone (level_base all_levels) (zone_below_all zone)
