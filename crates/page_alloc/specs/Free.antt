-- What a caller sees of taking free sectors: which are free, what a true table is, what changes in it, and what Full tells.
use Rattle.std.specs.Prelude.{◌≡◌, ℕ, ◌<◌, ◌≤◌, ◌⊎◌, ◌&&◌, Bool, true, not, nat_lt, List, length, filter, All, Contains, Result, Ok, Err}
use Rattle.std.specs.List.{range_with_len}
use Rattle.std.specs.List.Sorted.{IsStrictlyIncreasing}
use Rattle.disk_records.specs.Addresses.{pages_of}
use Rattle.disk_records.specs.Packs.{Pack, is_free_at}
use Rattle.hint_cache.specs.Bits.{busy_at}
use Rattle.page_alloc.specs.declared.errors.AllocError.{AllocError}
use Rattle.page_alloc.specs.declared.errors.AllocError.TheVariants.{Full, DiskFault, Memory}

-- the addresses below an end that pass a test, in rising order
abbrev pub below : (ℕ → Bool) → ℕ → List ℕ
below test end = filter test (range_with_len 0 end)

-- the free sectors of a pack
abbrev pub free_addresses : Pack → List ℕ
free_addresses p = below (is_free_at p) (pages_of p.shape)

-- the sectors that a table offers: it has them as free, and they can carry a page, as all but the first can
abbrev pub is_offered : List Bool → ℕ → Bool
is_offered bits at = nat_lt 0 at && not (busy_at bits at)

abbrev pub offered_sectors : List Bool → List ℕ
offered_sectors bits = below (is_offered bits) (length bits)

-- those that are free, and that the table has as free
abbrev pub is_offered_free : Pack → List Bool → ℕ → Bool
is_offered_free p bits at = is_free_at p at && not (busy_at bits at)

abbrev pub offered_free : Pack → List Bool → List ℕ
offered_free p bits = below (is_offered_free p bits) (pages_of p.shape)

-- a table is true where it is busy exactly at the sectors that aren't free
abbrev pub IsTrueTable : Pack → List Bool → Type 0
IsTrueTable p bits = (at : ℕ) → at < pages_of p.shape → busy_at bits at ≡ not (is_free_at p at)

-- a bit is as it was, or as the label of its sector says
abbrev pub IsCorrectedAt : Pack → List Bool → List Bool → ℕ → Type 0
IsCorrectedAt p old new at = (busy_at new at ≡ busy_at old at) ⊎ (busy_at new at ≡ not (is_free_at p at))

abbrev pub IsCorrected : Pack → List Bool → List Bool → Type 0
IsCorrected p old new = (at : ℕ) → IsCorrectedAt p old new at

-- the same except these addresses
abbrev pub IsCorrectedBut : Pack → List ℕ → List Bool → List Bool → Type 0
IsCorrectedBut p taken old new = (at : ℕ) → IsCorrectedAt p old new at ⊎ Contains taken at

-- distinct addresses in rising order, each of a sector below `end` that can carry a page
pub record IsRising (end : ℕ) (addresses : List ℕ) : Type 0 where
  pub rising : IsStrictlyIncreasing addresses
  pub within : All (λ at. (1 ≤ at) × (at < end)) addresses

-- So many addresses of sectors that can carry a page, distinct and in rising order, and busy in the table.
pub record IsReserved (end n : ℕ) (bits : List Bool) (taken : List ℕ) : Type 0 where
  pub count : length taken ≡ n
  pub rising : IsRising end taken
  pub busy : All (λ at. busy_at bits at ≡ true) taken

-- both numbers of a refusal that comes where too few sectors are free
abbrev pub IfFull : {T : Type 0} → Result T AllocError → (ℕ → ℕ → Type 0) → Type 0
IfFull (Ok x) P = Unit {0}
IfFull (Err (Full needed free)) P = P needed free
IfFull (Err DiskFault) P = Unit {0}
IfFull (Err Memory) P = Unit {0}
