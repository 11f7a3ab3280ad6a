-- Calls that are to fail.
use Rattle.std.specs.Prelude.{◌≡◌, ◌≢◌, ℕ, ◌+◌, ◌<◌, cond, is_none, List, [], length, take, Option, Some, None, Result, Err}
use Rattle.std.specs.BTreeMap.{get}
use Rattle.std.specs.Ordering.{nat_cmp}
use Rattle.disk_records.specs.declared.records.Sector.{Sector}
use Rattle.disk_records.specs.declared.records.Plan.{Plan}
use Rattle.disk_records.specs.declared.records.Event.{Event}
use Rattle.disk_records.specs.declared.traits.DiskError.{DiskError}
use Rattle.disk_records.specs.declared.traits.DiskError.TheVariants.{Failed, Memory}
use Rattle.disk_records.specs.Packs.{Pack, sector_at}
use Rattle.disk_records.specs.Checks.{mismatch as first_mismatch, writes_of}
use Rattle.disk_records.specs.Tapes.{Taped, added, capped, pack}
use Rattle.disk_memory.specs.declared.mem.MemMachine.{MemMachine}

-- the number of calls of `run`, `read` and `show` so far, which is the number of the next one
abbrev pub calls_of : MemMachine → ℕ
calls_of m = m.calls

-- whether the call with this number is to fail, and after how many of its record writes
abbrev pub failure_at : MemMachine → ℕ → Option ℕ
failure_at m call = get nat_cmp m.failures call

-- the same of the next call
abbrev pub next_failure : MemMachine → Option ℕ
next_failure m = failure_at m (calls_of m)

-- no call was made, and none is to fail
pub record IsFresh (m : MemMachine) : Type 0 where
  pub calls : calls_of m ≡ 0
  pub nothing : (call : ℕ) → failure_at m call ≡ None

-- the same calls are to fail
abbrev pub SameFailures : MemMachine → MemMachine → Type 0
SameFailures old new = (call : ℕ) → failure_at new call ≡ failure_at old call

-- this call is to fail too
pub record FailsAt (old new : MemMachine) (call after : ℕ) : Type 0 where
  pub this : failure_at new call ≡ Some after
  pub others : (other : ℕ) → other ≢ call → failure_at new other ≡ failure_at old other

-- one call was made
pub record IsCalled (old new : MemMachine) : Type 0 where
  pub calls : calls_of new ≡ capped (calls_of old + 1)
  pub failures : SameFailures old new

-- the record writes of a command on a pack that fails after so many: none where a checked word differs
abbrev pub writes_before : Pack → ℕ → Plan → Sector → ℕ → List Event
writes_before p at plan memory after = cond (is_none (first_mismatch plan memory (sector_at p at))) (take after (writes_of at plan memory)) []

-- a command that was to fail did, or there was no memory for the record writes that it makes first
pub record HasFailed (at : ℕ) (plan : Plan) (memory : Sector) (old new : Taped) (result : Result (Unit {0}) DiskError) (after : ℕ) : Type 0 where
  pub failed : result ≢ Err Memory → result ≡ Err Failed
  pub wrote : result ≡ Err Failed → added old new ≡ writes_before (pack old) at plan memory after
  pub counted : result ≡ Err Failed → new.disk_faults ≡ capped (old.disk_faults + 1)
  pub uncounted : result ≡ Err Memory → new.disk_faults ≡ old.disk_faults
  pub want : result ≡ Err Memory → old.spare < length (writes_before (pack old) at plan memory after)

-- a command that wasn't to fail didn't
pub record IsSure (old new : Taped) (result : Result (Unit {0}) DiskError) : Type 0 where
  pub sure : result ≢ Err Failed
  pub counted : new.disk_faults ≡ old.disk_faults
