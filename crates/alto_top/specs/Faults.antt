-- Faults by their causes, and how what the program was asked for ends.
use Rattle.std.specs.Prelude.{◌≡◌, ◌⊎◌, Result}
use Rattle.disk_records.specs.Causes.{IsCause, HasCause, of_disk}
use Rattle.disk_records.specs.Tapes.{Rose, Taped}
use Rattle.disk_descriptor.specs.declared.errors.FormatError.{FormatError}
use Rattle.disk_descriptor.specs.declared.errors.FormatError.TheVariants as formatting
use Rattle.pack_reading.specs.declared.error.ReadingError.{ReadingError}
use Rattle.pack_reading.specs.declared.error.ReadingError.TheVariants as reading
use Rattle.session_boot.specs.Faults.{HasStatusCause, NoFault, UnlessStopped, cause_of_fault}
use Rattle.session_boot.specs.declared.status.Fault.{Fault}
use Rattle.session_boot.specs.declared.status.Fault.TheVariants.{Disk, Memory}
use Rattle.session_boot.specs.declared.status.Status.{Status}
use Rattle.session_boot.specs.declared.status.Status.TheVariants.{DisplayFault}

-- a call that is given a disk and no console: the disk alone may fail
abbrev pub DiskFaultCause : Taped → Taped → Fault → Type 0
DiskFaultCause old new fault = IsCause old new (of_disk (cause_of_fault fault))

abbrev pub HasDiskCause : {T : Type 0} → Taped → Taped → Result T Fault → Type 0
HasDiskCause old new result = HasCause (λ fault. of_disk (cause_of_fault fault)) old new result

abbrev pub fault_of_reading : ReadingError → Fault
fault_of_reading reading.DiskFault = Disk
fault_of_reading reading.Memory = Memory

abbrev pub fault_of_format : FormatError → Fault
fault_of_format formatting.DiskFault = Disk
fault_of_format formatting.Memory = Memory

-- a fault of the display is answered, which failed since, where neither a fault nor out of memory was meant
pub record IsUnseen (old new : Taped) (meant answer : Status) : Type 0 where
  pub going : UnlessStopped meant ⊥ → ⊥
  pub fault : answer ≡ DisplayFault
  pub rose : Rose old.show_faults new.show_faults

-- what is answered once the display has all that was shown: the answer meant, or a fault of the display
abbrev pub IsSameOrUnseen : Taped → Taped → Status → Status → Type 0
IsSameOrUnseen old new meant answer = (answer ≡ meant) ⊎ IsUnseen old new meant answer

-- How what was asked for ends: a fault is answered only where the count of its device rose, or stands at its end; and unless a fault or out
-- of memory is answered, no fault of a device came, and this holds of the machine as it is left: nothing is held back.
pub record Concludes (none_held : Type 0) (old new : Taped) (answer : Status) : Type 0 where
  pub cause : HasStatusCause old new answer
  pub unfailed : UnlessStopped answer (NoFault old new)
  pub handed_on : UnlessStopped answer none_held
