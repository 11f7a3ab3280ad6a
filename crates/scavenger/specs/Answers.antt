-- What a scavenge answers, and where its errors come from.
use Rattle.std.specs.Prelude.{◌≡◌, Option, Some, None, Result, Ok, Err}
use Rattle.disk_records.specs.Causes.{Cause, disk, other}
use Rattle.disk_records.specs.Packs.{Pack}
use Rattle.disk_descriptor.specs.declared.errors.DescError.{DescError}
use Rattle.disk_descriptor.specs.declared.errors.DescError.TheVariants as desc
use Rattle.pack_model.specs.scavenger.Reports as model
use Rattle.pack_model.specs.scavenger.Reports.{report_of}
use Rattle.pack_model.specs.scavenger.Scavenging.{Refusal, first_refusal}
use Rattle.pack_model.specs.scavenger.Scavenging.Refusal.{root_bad, root_taken, pack_full}
use Rattle.scav_pages.specs.declared.errors.Stop.{Stop}
use Rattle.scav_pages.specs.declared.errors.Stop.TheVariants as stop
use Rattle.scav_table.specs.declared.errors.SweepError.{SweepError}
use Rattle.scav_table.specs.declared.errors.SweepError.TheVariants as sweep
use Rattle.scavenger.specs.declared.errors.Report.{Report}
use Rattle.scavenger.specs.declared.errors.ScavError.{ScavError}
use Rattle.scavenger.specs.declared.errors.ScavError.TheVariants.{RootBad, RootTaken, PackFull, DiskFault, Memory}

-- ---- causes
abbrev pub cause_of_scav : ScavError → Cause
cause_of_scav (RootBad header) = other
cause_of_scav (RootTaken found) = other
cause_of_scav (PackFull needed free) = other
cause_of_scav DiskFault = disk
cause_of_scav Memory = other

-- the end of a scavenge by the end of a pass, and by the error of a sweep
abbrev pub error_of_stop : Stop → ScavError
error_of_stop stop.DiskFault = DiskFault
error_of_stop stop.Memory = Memory
error_of_stop stop.Astray = Memory

abbrev pub error_of_sweep : SweepError → ScavError
error_of_sweep sweep.DiskFault = DiskFault
error_of_sweep sweep.Memory = Memory

-- the end of a call by the error of writing DiskDescriptor's pages
abbrev pub stop_of_write : DescError → Stop
stop_of_write (desc.Spent last) = stop.Astray
stop_of_write (desc.Held at found) = stop.Astray
stop_of_write desc.DiskFault = stop.DiskFault
stop_of_write desc.Memory = stop.Memory

-- ---- reports and refusals
abbrev pub report_in : Report → model.Report
report_in r = record { files = r.files; freed = r.freed; bad = r.bad; adopted = r.adopted }

-- the pack is refused
abbrev pub refusal_in : ScavError → Option Refusal
refusal_in (RootBad header) = Some (root_bad header)
refusal_in (RootTaken found) = Some (root_taken found)
refusal_in (PackFull needed free) = Some (pack_full needed free)
refusal_in DiskFault = None
refusal_in Memory = None

-- an error that refuses the pack
abbrev pub IsRefusal : ScavError → Type 0
IsRefusal (RootBad header) = Unit {0}
IsRefusal (RootTaken found) = Unit {0}
IsRefusal (PackFull needed free) = Unit {0}
IsRefusal DiskFault = ⊥
IsRefusal Memory = ⊥

abbrev pub refused : Option ScavError → Option Refusal
refused None = None
refused (Some error) = refusal_in error

-- What is answered of a pack: its report where it is taken; its refusal; or a fault, or out of memory, whatever it is.
abbrev pub Answers : Pack → Result Report ScavError → Type 0
Answers p (Ok report) = (first_refusal p ≡ None) × (report_in report ≡ report_of p)
Answers p (Err (RootBad header)) = first_refusal p ≡ Some (root_bad header)
Answers p (Err (RootTaken found)) = first_refusal p ≡ Some (root_taken found)
Answers p (Err (PackFull needed free)) = first_refusal p ≡ Some (pack_full needed free)
Answers p (Err DiskFault) = Unit {0}
Answers p (Err Memory) = Unit {0}
