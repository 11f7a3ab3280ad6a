-- A memory with a zone, and the words of its blocks.
use Rattle.std.specs.Prelude.{◌≡◌, ◌≤◌, ℕ, List, length, take}
use Rattle.world_model.specs.Zones.{Block}
use Rattle.world_model.specs.ZoneWords.{IsMemory, memory_length, memory_of, zone_in, zone_start}
use Rattle.laws_zone.specs.Filling.{FillZone, IsTop}

-- the blocks of each memory fill its zone, before which are the user's words
abbrev pub MemoriesHaveSuchZones : Type 0
MemoriesHaveSuchZones = (top : ℕ) (memory : List ℕ) → IsTop top → IsMemory top memory → FillZone top (zone_in top memory) × (length (take zone_start memory) ≡ zone_start)

-- The words of such blocks, with the user's before and zeros after them, are a memory, in which these blocks are the zone.
pub record ReadsBack (top : ℕ) (user : List ℕ) (zone : List Block) : Type 0 where
  pub zone_is : zone_in top (memory_of top user zone) ≡ zone
  pub memory_is : IsMemory top (memory_of top user zone)
  pub user_is : take zone_start (memory_of top user zone) ≡ user

abbrev pub ZonesReadBack : Type 0
ZonesReadBack = (top : ℕ) (user : List ℕ) (zone : List Block) → top ≤ memory_length → length user ≡ zone_start → FillZone top zone → ReadsBack top user zone

-- the other way, a memory is its user's words, those of its blocks, and zeros
abbrev pub MemoriesAreTheirBlocks : Type 0
MemoriesAreTheirBlocks = (top : ℕ) (memory : List ℕ) → IsTop top → IsMemory top memory → memory ≡ memory_of top (take zone_start memory) (zone_in top memory)
