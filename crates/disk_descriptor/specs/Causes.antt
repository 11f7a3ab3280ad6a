-- Where the errors of formatting come from.
use Rattle.disk_records.specs.Causes.{Cause, disk, other}
use Rattle.disk_descriptor.specs.declared.errors.FormatError.{FormatError}
use Rattle.disk_descriptor.specs.declared.errors.FormatError.TheVariants.{DiskFault, Memory}

abbrev pub cause_of_format : FormatError → Cause
cause_of_format DiskFault = disk
cause_of_format Memory = other
