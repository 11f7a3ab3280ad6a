-- Where the errors of a sweep come from.
use Rattle.disk_records.specs.Causes.{Cause, disk, other}
use Rattle.label_check.specs.declared.errors.LookError.{LookError}
use Rattle.label_check.specs.declared.errors.LookError.TheVariants as look
use Rattle.scav_table.specs.declared.errors.SweepError.{SweepError}
use Rattle.scav_table.specs.declared.errors.SweepError.TheVariants.{DiskFault, Memory}

abbrev pub cause_of_sweep : SweepError → Cause
cause_of_sweep DiskFault = disk
cause_of_sweep Memory = other

-- the error of a sector that wasn't read
abbrev pub error_of_look : LookError → SweepError
error_of_look look.DiskFault = DiskFault
error_of_look look.Memory = Memory
