-- Exit codes, and what is said on standard error.
use Rattle.std.specs.Prelude.{ℕ, Option, Some, None, Result, Ok, Err}
use Rattle.session_boot.specs.declared.status.Status.{Status}
use Rattle.session_boot.specs.declared.status.Status.TheVariants as status
use Rattle.disk_image.specs.declared.error.ReachError.TheVariants as reach
use Rattle.alto.specs.declared.end.Stop.{Stop}
use Rattle.alto.specs.declared.end.Stop.TheVariants as stop
use Rattle.alto.specs.declared.end.Complaint.{Complaint}
use Rattle.alto.specs.declared.end.Complaint.TheVariants as complaint

-- the number of what ends a run without a session
abbrev pub code_of : Stop → ℕ
code_of stop.Words = 1
code_of (stop.Pack reach.NoFile) = 8
code_of (stop.Pack reach.InUse) = 8
code_of (stop.Pack (reach.BadLength bytes)) = 8
code_of (stop.Pack (reach.Unlike first second)) = 8
code_of (stop.Pack reach.Memory) = 6
code_of stop.Display = 5
code_of stop.Memory = 6

-- what is said of it: nothing where no memory was left or the display failed
abbrev pub complaint_of : Stop → Option Complaint
complaint_of stop.Words = Some complaint.Usage
complaint_of (stop.Pack reach.NoFile) = Some (complaint.Pack reach.NoFile)
complaint_of (stop.Pack reach.InUse) = Some (complaint.Pack reach.InUse)
complaint_of (stop.Pack (reach.BadLength bytes)) = Some (complaint.Pack (reach.BadLength bytes))
complaint_of (stop.Pack (reach.Unlike first second)) = Some (complaint.Pack (reach.Unlike first second))
complaint_of (stop.Pack reach.Memory) = None
complaint_of stop.Display = None
complaint_of stop.Memory = None

-- the number of a status
abbrev pub number_of : Status → ℕ
number_of status.Done = 0
number_of status.Usage = 1
number_of status.NeedsScavenge = 2
number_of status.DiskFault = 3
number_of status.KeyFault = 4
number_of status.DisplayFault = 5
number_of status.Memory = 6
number_of status.CannotScavenge = 7

abbrev pub end_code : Result Status Stop → ℕ
end_code (Ok status) = number_of status
end_code (Err stop) = code_of stop

abbrev pub end_complaint : Result Status Stop → Option Complaint
end_complaint (Ok status) = None
end_complaint (Err stop) = complaint_of stop
