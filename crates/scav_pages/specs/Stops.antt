-- Where the ends of passes come from.
use Rattle.disk_records.specs.Causes.{Cause, disk, other}
use Rattle.label_check.specs.declared.errors.GuardError.{GuardError}
use Rattle.label_check.specs.declared.errors.GuardError.TheVariants as guard
use Rattle.label_check.specs.declared.errors.LookError.{LookError}
use Rattle.label_check.specs.declared.errors.LookError.TheVariants as look
use Rattle.scav_table.specs.declared.errors.SweepError.{SweepError}
use Rattle.scav_table.specs.declared.errors.SweepError.TheVariants as sweep
use Rattle.scav_pages.specs.declared.errors.Stop.{Stop}
use Rattle.scav_pages.specs.declared.errors.Stop.TheVariants.{DiskFault, Memory, Astray}

abbrev pub cause_of_stop : Stop → Cause
cause_of_stop DiskFault = disk
cause_of_stop Memory = other
cause_of_stop Astray = other

-- the end of a pass by the error of a sweep, of a guarded command and of a look
abbrev pub stop_of_sweep : SweepError → Stop
stop_of_sweep sweep.DiskFault = DiskFault
stop_of_sweep sweep.Memory = Memory

abbrev pub stop_of_guard : GuardError → Stop
stop_of_guard (guard.Wrong found) = Astray
stop_of_guard guard.DiskFault = DiskFault
stop_of_guard guard.Memory = Memory

abbrev pub stop_of_look : LookError → Stop
stop_of_look look.DiskFault = DiskFault
stop_of_look look.Memory = Memory
