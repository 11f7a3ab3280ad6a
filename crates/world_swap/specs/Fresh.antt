-- The memory as a session begins.
use Rattle.std.specs.Prelude.{ℕ, ◌-◌, List, [], ◌∷◌, replicate}
use Rattle.zones.specs.world_model.specs.Levels.{all_levels, level_base}
use Rattle.zones.specs.world_model.specs.Zones.{gap}
use Rattle.zones.specs.world_model.specs.ZoneWords.{memory_of, zone_start}

-- the user's words are 0, and the zone is one free block, up to the base of the highest level
abbrev pub fresh_memory : List ℕ
fresh_memory = memory_of (level_base all_levels) (replicate zone_start 0) (gap (level_base all_levels - zone_start) ∷ [])
