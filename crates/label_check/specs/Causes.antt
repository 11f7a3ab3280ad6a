-- Where the errors of guarded commands come from.
use Rattle.disk_records.specs.Causes.{Cause, disk, other}
use Rattle.label_check.specs.declared.errors.GuardError.{GuardError}
use Rattle.label_check.specs.declared.errors.GuardError.TheVariants.{Wrong, DiskFault, Memory}
use Rattle.label_check.specs.declared.errors.LookError.{LookError}
use Rattle.label_check.specs.declared.errors.LookError.TheVariants as look

abbrev pub cause_of_guard : GuardError → Cause
cause_of_guard (Wrong found) = other
cause_of_guard DiskFault = disk
cause_of_guard Memory = other

abbrev pub cause_of_look : LookError → Cause
cause_of_look look.DiskFault = disk
cause_of_look look.Memory = other
