-- Why a pack isn't entered, as it is shown.
use Rattle.std.specs.Prelude.{◌≡◌, ℕ, List, [], Result, Ok, Err, Vec}
use Rattle.std.specs.declared.alloc.Global.{Global}
use Rattle.executive.specs.disk_descriptor.specs.declared.errors.OpenError.{OpenError}
use Rattle.executive.specs.disk_descriptor.specs.declared.errors.OpenError.TheVariants as error
use Rattle.disk_records.specs.Events.{IsFirstOf, shown_events}
use Rattle.disk_records.specs.Tapes.{Taped, Rose, added}
use Rattle.session_model.specs.Opening.{no_root, no_descriptor, wrong_length, bad_descriptor, not_clean, unready_text}
use Rattle.session_model.specs.Turning.{hint_text}
use Rattle.session_boot.specs.declared.status.Fault.{Fault}
use Rattle.session_boot.specs.declared.status.Fault.TheVariants.{Disk, Key, Display, Memory}
use Rattle.session_boot.specs.declared.status.Status.{Status}
use Rattle.session_boot.specs.declared.status.Status.TheVariants as status

-- the text; none of a fault, and none out of memory
abbrev pub reason : OpenError → List ℕ
reason (error.NoRoot found) = unready_text (no_root found)
reason error.NoDescriptor = unready_text no_descriptor
reason (error.WrongLength size) = unready_text (wrong_length size)
reason (error.BadDescriptor word found) = unready_text (bad_descriptor word found)
reason (error.NotClean mark) = unready_text (not_clean mark)
reason (error.Misled place at wanted found) = hint_text place at wanted found
reason error.DiskFault = []
reason error.Memory = []

-- neither a fault nor out of memory
abbrev pub IsReason : OpenError → Type 0
IsReason (error.NoRoot found) = Unit {0}
IsReason error.NoDescriptor = Unit {0}
IsReason (error.WrongLength size) = Unit {0}
IsReason (error.BadDescriptor word found) = Unit {0}
IsReason (error.NotClean mark) = Unit {0}
IsReason (error.Misled place at wanted found) = Unit {0}
IsReason error.DiskFault = ⊥
IsReason error.Memory = ⊥

-- no fault of the disk
abbrev pub IsNoDiskFault : OpenError → Type 0
IsNoDiskFault (error.NoRoot found) = Unit {0}
IsNoDiskFault error.NoDescriptor = Unit {0}
IsNoDiskFault (error.WrongLength size) = Unit {0}
IsNoDiskFault (error.BadDescriptor word found) = Unit {0}
IsNoDiskFault (error.NotClean mark) = Unit {0}
IsNoDiskFault (error.Misled place at wanted found) = Unit {0}
IsNoDiskFault error.DiskFault = ⊥
IsNoDiskFault error.Memory = Unit {0}

abbrev pub FaultOf : OpenError → Fault → Type 0
FaultOf e Disk = e ≡ error.DiskFault
FaultOf e Memory = IsNoDiskFault e
FaultOf e Key = ⊥
FaultOf e Display = ⊥

abbrev pub HasReason : OpenError → Result (Vec ℕ Global) Fault → Type 0
HasReason e (Ok text) = IsReason e × (text.items ≡ reason e)
HasReason e (Err fault) = FaultOf e fault

-- ---- the answer that it gives: by what stopped the opening, and on every machine the display's own count
abbrev pub Refused : OpenError → Taped → Taped → Status → Type 0
Refused e old new status.Done = ⊥
Refused e old new status.Usage = ⊥
Refused e old new status.NeedsScavenge = IsReason e
Refused e old new status.DiskFault = e ≡ error.DiskFault
Refused e old new status.KeyFault = ⊥
Refused e old new status.DisplayFault = IsReason e × Rose old.show_faults new.show_faults
Refused e old new status.Memory = IsNoDiskFault e
Refused e old new status.CannotScavenge = ⊥

-- and what is shown on a modelled one: the text, or a prefix of it where the display failed
abbrev pub ShowsReason : OpenError → Taped → Taped → Status → Type 0
ShowsReason e old new status.Done = ⊥
ShowsReason e old new status.Usage = ⊥
ShowsReason e old new status.NeedsScavenge = added old new ≡ shown_events (reason e)
ShowsReason e old new status.DiskFault = added old new ≡ []
ShowsReason e old new status.KeyFault = ⊥
ShowsReason e old new status.DisplayFault = IsFirstOf (shown_events (reason e)) (added old new)
ShowsReason e old new status.Memory = added old new ≡ []
ShowsReason e old new status.CannotScavenge = ⊥
