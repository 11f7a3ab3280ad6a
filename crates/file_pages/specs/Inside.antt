-- What the private functions say.
use Rattle.std.specs.Prelude.{ℕ}
use Rattle.disk_records.specs.declared.records.Page.{Page}
use Rattle.disk_records.specs.declared.records.Place.{Place}
use Rattle.label_check.specs.declared.errors.GuardError.{GuardError}
use Rattle.label_check.specs.declared.errors.GuardError.TheVariants as guard
use Rattle.page_seeking.specs.declared.refs.FileError.{FileError}
use Rattle.page_seeking.specs.declared.refs.FileError.TheVariants.{DiskFault, Memory, Misled}

-- the answer of a guarded call where the hint at this place has this address and means this page
abbrev pub error_at : Place → ℕ → Page → GuardError → FileError
error_at place at wanted (guard.Wrong found) = Misled place at wanted found
error_at place at wanted guard.DiskFault = DiskFault
error_at place at wanted guard.Memory = Memory
