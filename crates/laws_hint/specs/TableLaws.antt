-- The table in memory over a line: it was true before; sectors are reserved, claimed and released; and it is true afterwards.
use Rattle.std.specs.List.{list_any}
use Rattle.std.specs.Prelude.{All, Bool, List, [], false, length, true, ℕ, ◌++◌, ◌==◌, ◌≡◌, ◌≢◌}
use Rattle.laws_line.specs.disk_records.specs.Packs.{Pack, after, is_free_at}
use Rattle.laws_line.specs.disk_records.specs.declared.records.Event.{Event}
use Rattle.laws_line.specs.hint_cache.specs.Bits.{busy_at}
use Rattle.laws_line.specs.page_alloc.specs.Free.{IsCorrected, IsCorrectedBut}
use Rattle.laws_line.specs.pack_model.specs.hints.Tables.{TableTrue, true_table}
use Rattle.laws_line.specs.pack_model.specs.states.Whole.{Whole}
use Rattle.laws_hint.specs.MapChanges.{MarksMap, marked}
use Rattle.laws_hint.specs.MapMeanings.{HasEachSector}
use Rattle.laws_line.specs.laws_operation.specs.FreeLaws.{StayFreeBut}

-- The table is the true map with these sectors busy besides. They are free, and reserved for operations to come.
pub record TableReserves (p : Pack) (busy : List Bool) (reserved : List ℕ) : Type 0 where
  pub bits : busy ≡ marked true reserved (true_table p)
  pub free : All (λ at. is_free_at p at ≡ true) reserved

-- ---- reserving
-- With a true table and no sector reserved: what sectors are answered are reserved; where none is the table is true still. The premises
-- are those of `page_alloc::take::reserve`.
pub record ReservingKeeps (p : Pack) (old new : List Bool) : Type 0 where
  pub taken : (taken : List ℕ) → IsCorrectedBut p taken old new → All (λ at. busy_at new at ≡ true) taken → All (λ at. is_free_at p at ≡ true) taken → TableReserves p new taken
  pub refused : IsCorrected p old new → TableTrue p new

abbrev pub ReservingKeepsTheTable : Type 0
ReservingKeepsTheTable = (p : Pack) (old new : List Bool) → Whole p → HasEachSector p → TableTrue p old → length new ≡ length old → ReservingKeeps p old new

-- the order in which sectors are reserved is no matter
abbrev pub ReservedInAnyOrder : Type 0
ReservedInAnyOrder = (p : Pack) (busy : List Bool) (one two : List ℕ) → ((at : ℕ) → list_any (λ i. at == i) two ≡ list_any (λ i. at == i) one) → TableReserves p busy one → TableReserves p busy two

-- ---- an operation, a new serial, the opening of the mark
-- Record writes that claim some of the reserved sectors, and release others that weren't free, as each operation's law says: the table
-- with the claimed ones busy and the released ones free has the rest reserved.
abbrev pub OperationsUseTheTable : Type 0
OperationsUseTheTable = (p : Pack) (events : List Event) (busy : List Bool) (claimed rest released : List ℕ)
    → TableReserves p busy (claimed ++ rest) → MarksMap p events claimed released → StayFreeBut claimed p events
    → All (λ at. All (λ i. at ≢ i) claimed) rest → All (λ at. is_free_at p at ≡ false) released
    → TableReserves (after p events) (marked false released (marked true claimed busy)) rest

-- ---- after the line
-- a table that has no sector reserved is the true one, and the other way round
pub record NoneReserved (p : Pack) (busy : List Bool) : Type 0 where
  pub is_true : TableReserves p busy [] → TableTrue p busy
  pub reserves : TableTrue p busy → TableReserves p busy []

abbrev pub TableWithoutReserved : Type 0
TableWithoutReserved = (p : Pack) (busy : List Bool) → NoneReserved p busy
