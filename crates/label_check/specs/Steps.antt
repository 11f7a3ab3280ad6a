-- The second sector command of a guarded call.
use Rattle.std.specs.Prelude.{◌≡◌, ℕ, ◌+◌, ◌<◌, List, [], ◌∷◌, length, Result, Err, OnOk, IsErrOf}
use Rattle.disk_records.specs.declared.records.Event.{Event}
use Rattle.disk_records.specs.declared.records.Sector.{Sector}
use Rattle.disk_records.specs.declared.shape.Shape.{Shape}
use Rattle.disk_records.specs.Addresses.{real_of}
use Rattle.disk_records.specs.Events.{IsFirstOf}
use Rattle.disk_records.specs.Packs.{label_found}
use Rattle.disk_records.specs.Tapes.{Taped, pack, added, capped}
use Rattle.label_check.specs.declared.errors.GuardError.{GuardError}
use Rattle.label_check.specs.declared.errors.GuardError.TheVariants.{DiskFault, Memory}
use Rattle.label_check.specs.declared.errors.LookError.{LookError}
use Rattle.label_check.specs.declared.errors.LookError.TheVariants as look
use Rattle.label_check.specs.Guarded.{IfWrong}

-- a sector command that finds no mismatch and does these record writes, or a prefix of them, and none where no memory was left
pub record Finished (writes : List Event) (old new : Taped) (result : Result (Unit {0}) GuardError) : Type 0 where
  pub some : IsFirstOf writes (added old new)
  pub ok : OnOk result (added old new ≡ writes)
  pub matched : IfWrong result (λ found. ⊥)
  pub want : IsErrOf result Memory → old.spare < length writes
  pub none : IsErrOf result Memory → added old new ≡ []
  pub runs : new.runs ≡ capped (old.runs + 1)

-- a sector command that reads the label of a sector whose guard failed
pub record Refused (at : ℕ) (old new : Taped) (error : GuardError) : Type 0 where
  pub silent : added old new ≡ []
  pub label : IfWrong {T = Unit {0}} (Err error) (λ found. found ≡ label_found (pack old) at)
  pub want : error ≡ Memory → ⊥
  pub runs : new.runs ≡ capped (old.runs + 1)

-- the memory side of a command on a sector that is to be free: its real address, the three words that make a label free, and a
-- value; each other word is 0 and matches any
abbrev pub asks_free : Shape → ℕ → List ℕ → Sector
asks_free form at value = record { header = 0 ∷ real_of form at ∷ []; label = 0 ∷ 0 ∷ 0 ∷ 0 ∷ 0 ∷ 65535 ∷ 65535 ∷ 65535 ∷ []; value = value }

-- the error of a sector that wasn't read
abbrev pub error_of_look : LookError → GuardError
error_of_look look.DiskFault = DiskFault
error_of_look look.Memory = Memory
