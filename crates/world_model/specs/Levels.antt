-- Levels of service: which words each takes of the memory, and what becomes of the zone as levels go and come back.
-- Junta and CounterJunta are those of the SOSP 1979 paper; the levels and their sizes are this project's choice.
use Rattle.std.specs.Prelude.{◌≤◌, ℕ, ◌-◌, List, [], ◌∷◌, length, take, min, sum_by, Option}
use Rattle.world_model.specs.Zones.{Block, grown, shrunk, used_above}
use Rattle.world_model.specs.ZoneWords.{zone_start, memory_length, IsMemory}

-- ---- the table: the words of each service, from level 1 on
--   1 memory and Junta   2 zone      3 pages         4 world swap
--   5 files              6 streams   7 directories   8 Scavenger
abbrev pub level_words : List ℕ
level_words = 1024 ∷ 1024 ∷ 2048 ∷ 4096 ∷ 4096 ∷ 4096 ∷ 4096 ∷ 4096 ∷ []

abbrev pub all_levels : ℕ
all_levels = length level_words

-- a level has the words from its base up, with those of the levels below it; the zone ends there
unfoldable pub level_base : ℕ → ℕ
level_base level = memory_length - sum_by (λ n. n) (take level level_words)

-- A memory at a level.
pub record IsAtLevel (level : ℕ) (memory : List ℕ) : Type 0 where
  pub least : 1 ≤ level
  pub most : level ≤ all_levels
  pub memory_is : IsMemory (level_base level) memory

-- ---- the levels above this one go, and their words join the zone
abbrev pub level_kept : ℕ → ℕ → ℕ
level_kept level to = min level to

abbrev pub zone_kept : ℕ → ℕ → List Block → List Block
zone_kept level to zone = grown (level_base (level_kept level to) - level_base level) zone

-- ---- all levels come back
-- unless a used block stands where one would: its first usable word
abbrev pub used_by_levels : List Block → Option ℕ
used_by_levels zone = used_above (level_base all_levels) zone_start zone

abbrev pub zone_below_all : List Block → List Block
zone_below_all zone = shrunk (level_base all_levels - zone_start) zone
