-- Where the errors of taking free sectors come from.
use Rattle.disk_records.specs.Causes.{Cause, disk, other, never}
use Rattle.page_alloc.specs.declared.errors.AllocError.{AllocError}
use Rattle.page_alloc.specs.declared.errors.AllocError.TheVariants.{Full, DiskFault, Memory}

abbrev pub cause_of_alloc : AllocError → Cause
cause_of_alloc (Full needed free) = other
cause_of_alloc DiskFault = disk
cause_of_alloc Memory = other

-- of functions that refuse nothing
abbrev pub cause_of_finding : AllocError → Cause
cause_of_finding (Full needed free) = never
cause_of_finding DiskFault = disk
cause_of_finding Memory = other
