-- Faults by their causes: each but out of memory has its own count risen.
use Rattle.std.specs.Prelude.{◌≡◌, ◌⊎◌, Bool, true, false, Result}
use Rattle.disk_records.specs.Causes.{Cause, disk, keyboard, display, other, IsCause, HasCause, Unfailed, of_keyboard, of_display}
use Rattle.disk_records.specs.Tapes.{Taped, Rose}
use Rattle.session_model.specs.Ending.{Stop, done, needs_scavenge, disk_failed, display_failed, keys_failed, no_memory}
use Rattle.session_boot.specs.declared.status.Fault.{Fault}
use Rattle.session_boot.specs.declared.status.Fault.TheVariants.{Disk, Key, Display, Memory}
use Rattle.session_boot.specs.declared.status.Status.{Status}
use Rattle.session_boot.specs.declared.status.Status.TheVariants as status

abbrev pub cause_of_fault : Fault → Cause
cause_of_fault Disk = disk
cause_of_fault Key = keyboard
cause_of_fault Display = display
cause_of_fault Memory = other

abbrev pub cause_of_status : Status → Cause
cause_of_status status.Done = other
cause_of_status status.Usage = other
cause_of_status status.NeedsScavenge = other
cause_of_status status.DiskFault = disk
cause_of_status status.KeyFault = keyboard
cause_of_status status.DisplayFault = display
cause_of_status status.Memory = other
cause_of_status status.CannotScavenge = other

abbrev pub HasFaultCause : {T : Type 0} → Taped → Taped → Result T Fault → Type 0
HasFaultCause old new result = HasCause cause_of_fault old new result

-- a call that reads keys
abbrev pub KeyFaultCause : Taped → Taped → Fault → Type 0
KeyFaultCause old new fault = IsCause old new (of_keyboard (cause_of_fault fault))

abbrev pub HasKeyCause : {T : Type 0} → Taped → Taped → Result T Fault → Type 0
HasKeyCause old new result = HasCause (λ fault. of_keyboard (cause_of_fault fault)) old new result

-- a call that shows bytes
abbrev pub HasShowCause : {T : Type 0} → Taped → Taped → Result T Fault → Type 0
HasShowCause old new result = HasCause (λ fault. of_display (cause_of_fault fault)) old new result

-- what is answered once the disk has handed on what it held back: the answer meant, where no fault of the disk came, or this fault of it
abbrev pub IsSameOrFailed : {T : Type 0} → T → Taped → Taped → T → T → Type 0
IsSameOrFailed fault old new meant result = ((result ≡ meant) × Unfailed old new) ⊎ ((result ≡ fault) × Rose old.disk_faults new.disk_faults)

-- a fact that holds unless a fault or out of memory is answered
abbrev pub UnlessStopped : Status → Type 0 → Type 0
UnlessStopped status.Done holds = holds
UnlessStopped status.Usage holds = holds
UnlessStopped status.NeedsScavenge holds = holds
UnlessStopped status.DiskFault holds = Unit {0}
UnlessStopped status.KeyFault holds = Unit {0}
UnlessStopped status.DisplayFault holds = Unit {0}
UnlessStopped status.Memory holds = Unit {0}
UnlessStopped status.CannotScavenge holds = holds

-- no fault of a device came: each count is as it was
pub record NoFault (old new : Taped) : Type 0 where
  pub disk : Unfailed old new
  pub keys : new.key_faults ≡ old.key_faults
  pub display : new.show_faults ≡ old.show_faults

abbrev pub HasStatusCause : Taped → Taped → Status → Type 0
HasStatusCause old new answer = IsCause old new (cause_of_status answer)

-- ---- how a session that stops at a fault ends, or one that is over, by whether a scavenge is needed
abbrev pub status_of : Fault → Status
status_of Disk = status.DiskFault
status_of Key = status.KeyFault
status_of Display = status.DisplayFault
status_of Memory = status.Memory

abbrev pub status_of_need : Bool → Status
status_of_need false = status.Done
status_of_need true = status.NeedsScavenge

abbrev pub stop_of : Fault → Stop
stop_of Disk = disk_failed
stop_of Key = keys_failed
stop_of Display = display_failed
stop_of Memory = no_memory

abbrev pub stop_of_need : Bool → Stop
stop_of_need false = done
stop_of_need true = needs_scavenge
