-- What is kept in memory of the sectors of a pack.
use Rattle.std.specs.Prelude.{Bool, ◌≡◌, ◌≢◌, ℕ, ◌+◌, ◌*◌, ◌/◌, ◌%◌, ◌==◌, ◌<◌, ◌≤◌, cond, List, length, take, drop, get_or, Option, Some, None, Result, Ok, IfSome, IfNone, IfOk, IsOk, OnOk, OnErr, vec_len, vec_capacity}
use Rattle.std.specs.Io.KnownBytes.{Consumes}
use Rattle.disk_records.specs.declared.records.Act.TheVariants.{Write}
use Rattle.disk_records.specs.declared.records.Plan.{Plan}
use Rattle.disk_records.specs.declared.records.Sector.{Sector}
use Rattle.disk_records.specs.Checks.{mismatch, memory_after}
use Rattle.disk_image.specs.Images.{sector_bytes}
use Rattle.disk_image.specs.declared.table.SectorTable.{SectorTable}
use Rattle.disk_image.specs.declared.kept.KeptSectors.{KeptSectors}
use Rattle.disk_image.specs.declared.kept.Reads.{Reads}
use Rattle.disk_image.specs.declared.kept.Reads.TheVariants.{Never, Once, Often}
use Rattle.disk_image.specs.declared.kept.Place.{Place}
use Rattle.disk_image.specs.declared.kept.Place.TheVariants.{Nowhere, Passing, Staying}

-- ---- a table
-- the sector of a number, if it is there
abbrev pub sector_in : SectorTable → ℕ → Option Sector
sector_in table number = get_or table.sectors.items number None

-- ---- what is kept
-- where a sector may be kept, by how often its cylinder was read and whether it is the latest
abbrev pub place_by : Reads → Bool → Place
place_by Never is_latest = Nowhere
place_by Once is_latest = cond is_latest Passing Nowhere
place_by Often is_latest = Staying

abbrev pub place_of : KeptSectors → ℕ → Place
place_of kept at = place_by (get_or kept.reads.items (at / 24) Never) (at / 24 == kept.latest)

-- the sector that is kept at a virtual address, if one is
abbrev pub kept_in : Place → KeptSectors → ℕ → Option Sector
kept_in Nowhere kept at = None
kept_in Passing kept at = sector_in kept.passing (at % 24)
kept_in Staying kept at = sector_in kept.staying at

abbrev pub kept_at : KeptSectors → ℕ → Option Sector
kept_at kept at = kept_in (place_of kept at) kept at

-- there is memory for the sectors of a cylinder
pub record HasRoom (kept : KeptSectors) (cylinder : ℕ) : Type 0 where
  pub counted : cylinder < vec_len kept.reads
  pub passing : 24 ≤ vec_capacity kept.passing.sectors
  pub staying : cylinder * 24 + 24 ≤ vec_capacity kept.staying.sectors

-- a sector with these bytes is kept
abbrev pub HasBytes : Option Sector → List ℕ → Type 0
HasBytes None bytes = ⊥
HasBytes (Some sector) bytes = sector_bytes sector ≡ bytes

-- 24 sectors are in a table as these bytes say, and the others as before
pub record PutsCylinder (first : ℕ) (bytes : List ℕ) (old new : SectorTable) : Type 0 where
  pub here : (k : ℕ) → k < 24 → HasBytes (sector_in new (first + k)) (take 532 (drop (k * 532) bytes))
  pub below : (k : ℕ) → k < first → sector_in new k ≡ sector_in old k
  pub above : (k : ℕ) → first + 24 ≤ k → sector_in new k ≡ sector_in old k

-- what is kept of the sectors on other cylinders was kept before
abbrev pub NoOtherChanges : ℕ → KeptSectors → KeptSectors → Type 0
NoOtherChanges cylinder old new = (k : ℕ) → k / 24 ≢ cylinder → IfSome (kept_at new k) (λ sector. kept_at old k ≡ Some sector)

-- the 24 sectors of a cylinder are kept as these bytes say, and no other sector changes
pub record KeepsCylinder (cylinder : ℕ) (bytes : List ℕ) (old new : KeptSectors) : Type 0 where
  pub here : (k : ℕ) → k < 24 → HasBytes (kept_at new (cylinder * 24 + k)) (take 532 (drop (k * 532) bytes))
  pub others : NoOtherChanges cylinder old new

-- a file's next bytes were read, as many as a cylinder has, and are kept so
pub record ReadsCylinder (cylinder : ℕ) (before after : Option (List ℕ)) (old new : KeptSectors) : Type 0 where
  pub bytes : List ℕ
  pub whole : length bytes ≡ 12768
  pub consumed : Consumes before after bytes
  pub kept : KeepsCylinder cylinder bytes old new

-- The reading of one sector command, where its sector may be kept. What was kept is compared with memory and never a fault, and memory
-- then gets it. What is kept afterwards is what memory holds, except of a command that writes. After a fault the sector isn't kept.
pub record ReadsKept {E : Type 0} (at : ℕ) (plan : Plan) (memory buffer : Sector) (old new : KeptSectors) (result : Result (Option (ℕ × ℕ)) E) : Type 0 where
  pub compared : IfSome (kept_at old at) (λ sector. result ≡ Ok (mismatch plan memory sector))
  pub read : IfSome (kept_at old at) (λ sector. mismatch plan memory sector ≡ None → buffer ≡ memory_after plan memory sector)
  pub same : IfOk result (λ found. IfNone found (plan.value ≢ Write → IfSome (kept_at new at) (λ sector. sector ≡ buffer)))
  pub forgotten : OnErr result (kept_at new at ≡ None)
  pub others : NoOtherChanges (at / 24) old new

-- The reading of a whole sector that may be kept. What was kept is no fault, and memory then gets it. What is kept afterwards is what
-- memory holds. After an error the sector isn't kept.
pub record LooksKept {E : Type 0} (at : ℕ) (buffer : Sector) (old new : KeptSectors) (result : Result (Unit {0}) E) : Type 0 where
  pub read : IfSome (kept_at old at) (λ sector. IsOk result × (buffer ≡ sector))
  pub same : OnOk result (IfSome (kept_at new at) (λ sector. sector ≡ buffer))
  pub forgotten : OnErr result (kept_at new at ≡ None)
  pub others : NoOtherChanges (at / 24) old new

-- One sector command on a sector that may be kept. What was kept is compared with memory, and is no fault of a command that only reads;
-- memory then gets it. What is kept after the command, where it found the sector as it should be, is what memory holds, also where it
-- wrote. After a fault the sector isn't kept.
pub record ObeysKept {E : Type 0} (at : ℕ) (plan : Plan) (memory buffer : Sector) (old new : KeptSectors) (result : Result (Option (ℕ × ℕ)) E) : Type 0 where
  pub compared : IfSome (kept_at old at) (λ sector. IfOk result (λ found. found ≡ mismatch plan memory sector))
  pub no_fault : IfSome (kept_at old at) (λ sector. plan.value ≢ Write → IsOk result)
  pub read : IfSome (kept_at old at) (λ sector. mismatch plan memory sector ≡ None → buffer ≡ memory_after plan memory sector)
  pub same : IfOk result (λ found. IfNone found (IfSome (kept_at new at) (λ sector. sector ≡ buffer)))
  pub forgotten : OnErr result (kept_at new at ≡ None)
  pub others : NoOtherChanges (at / 24) old new
