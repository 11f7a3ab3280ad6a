-- What it is for a table of busy bits to be true, in page_alloc's term and in pack_model's.
use Rattle.std.specs.Prelude.{Bool, List, false, length, ℕ, ◌↔◌, ◌≡◌}
use Rattle.laws_line.specs.disk_records.specs.Addresses.{pages_of}
use Rattle.laws_line.specs.disk_records.specs.Packs.{Pack}
use Rattle.laws_line.specs.hint_cache.specs.Bits.{busy_at}
use Rattle.laws_line.specs.page_alloc.specs.Free.{IsTrueTable}
use Rattle.laws_line.specs.pack_model.specs.hints.Tables.{TableTrue, free_table, true_table}
use Rattle.laws_line.specs.pack_model.specs.states.Whole.{Whole}

-- a pack has a sector for each address of its shape
abbrev pub HasEachSector : Pack → Type 0
HasEachSector p = length p.sectors ≡ pages_of p.shape

-- on any pack the map of the free sectors alone is true in page_alloc's term: busy exactly at the sectors that aren't free
abbrev pub FreeTableIsTrue : Type 0
FreeTableIsTrue = (p : Pack) → IsTrueTable p (free_table p)

-- on a pack with a sector for each address, a table with a bit for each sector is true in page_alloc's term if and only if it is the map of
-- the free sectors
abbrev pub OnlyFreeTableIsCompleteAndTrue : Type 0
OnlyFreeTableIsCompleteAndTrue = (p : Pack) (bits : List Bool) → HasEachSector p → length bits ≡ pages_of p.shape → IsTrueTable p bits ↔ (bits ≡ free_table p)

-- on any pack what is free in the map of the free sectors is free in the true map too, which may have more free bits
abbrev pub FreeSectorsAreAvailable : Type 0
FreeSectorsAreAvailable = (p : Pack) (at : ℕ) → busy_at (free_table p) at ≡ false → busy_at (true_table p) at ≡ false

-- on a whole pack the true map is the map of the free sectors
abbrev pub TrueTableIsFreeTable : Type 0
TrueTableIsFreeTable = (p : Pack) → Whole p → true_table p ≡ free_table p

-- on a whole pack with a sector for each address, a table with a bit for each sector is true in one term if and only if it is in the other
abbrev pub WholePackHasOneKindOfTrueTable : Type 0
WholePackHasOneKindOfTrueTable = (p : Pack) (bits : List Bool) → Whole p → HasEachSector p → length bits ≡ pages_of p.shape → IsTrueTable p bits ↔ TableTrue p bits
