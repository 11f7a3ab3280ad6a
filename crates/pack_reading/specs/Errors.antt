-- What ends a reading, and where it comes from.
use Rattle.disk_records.specs.Causes.{Cause, disk, other}
use Rattle.label_check.specs.declared.errors.LookError.{LookError}
use Rattle.label_check.specs.declared.errors.LookError.TheVariants as look
use Rattle.pack_reading.specs.declared.error.ReadingError.{ReadingError}
use Rattle.pack_reading.specs.declared.error.ReadingError.TheVariants.{DiskFault, Memory}

abbrev pub error_of_look : LookError → ReadingError
error_of_look look.DiskFault = DiskFault
error_of_look look.Memory = Memory

abbrev pub cause_of_reading : ReadingError → Cause
cause_of_reading DiskFault = disk
cause_of_reading Memory = other
