-- What calls on DiskDescriptor answer that aren't done, and where these errors come from.
use Rattle.std.specs.Prelude.{ℕ, List, Option, Result, Ok, Err}
use Rattle.disk_records.specs.Causes.{Cause, disk, other}
use Rattle.label_check.specs.declared.errors.GuardError.{GuardError}
use Rattle.label_check.specs.declared.errors.GuardError.TheVariants as guard
use Rattle.disk_descriptor.specs.declared.errors.DescError.{DescError}
use Rattle.disk_descriptor.specs.declared.errors.DescError.TheVariants.{Spent, Held, DiskFault, Memory}

-- the error of a guarded command on the sector at an address
abbrev pub error_at : ℕ → GuardError → DescError
error_at at (guard.Wrong found) = Held at found
error_at at guard.DiskFault = DiskFault
error_at at guard.Memory = Memory

abbrev pub IfHeld : {T : Type 0} → Result T DescError → (ℕ → Option (List ℕ) → Type 0) → Type 0
IfHeld (Ok x) P = Unit {0}
IfHeld (Err (Spent last)) P = Unit {0}
IfHeld (Err (Held at found)) P = P at found
IfHeld (Err DiskFault) P = Unit {0}
IfHeld (Err Memory) P = Unit {0}

abbrev pub IfSpent : {T : Type 0} → Result T DescError → (ℕ → Type 0) → Type 0
IfSpent (Ok x) P = Unit {0}
IfSpent (Err (Spent last)) P = P last
IfSpent (Err (Held at found)) P = Unit {0}
IfSpent (Err DiskFault) P = Unit {0}
IfSpent (Err Memory) P = Unit {0}

-- only a new serial is ever refused as spent
abbrev pub cause_of : Cause → DescError → Cause
cause_of spent (Spent last) = spent
cause_of spent (Held at found) = other
cause_of spent DiskFault = disk
cause_of spent Memory = other
