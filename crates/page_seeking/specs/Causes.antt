-- Where the errors of calls on files come from.
use Rattle.disk_records.specs.Causes.{Cause, disk, other, never}
use Rattle.page_seeking.specs.declared.refs.FileError.{FileError}
use Rattle.page_seeking.specs.declared.refs.FileError.TheVariants.{Misled, Beyond, DiskFault, Memory}

abbrev pub cause_of_file : FileError → Cause
cause_of_file (Misled place at wanted found) = other
cause_of_file (Beyond length) = other
cause_of_file DiskFault = disk
cause_of_file Memory = other

-- of calls that never answer Beyond
abbrev pub cause_of_length : FileError → Cause
cause_of_length (Misled place at wanted found) = other
cause_of_length (Beyond length) = never
cause_of_length DiskFault = disk
cause_of_length Memory = other
