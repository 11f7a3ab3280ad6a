-- Faults of a top call, the program's or a test's.
use Rattle.disk_records.specs.Tapes.{Rose, Taped}
use Rattle.session_boot.specs.declared.status.Status.{Status}
use Rattle.session_boot.specs.declared.status.Status.TheVariants as status

-- A device's fault is answered only where its count rose. That a fault which came is answered is asked of `alto`, and not of a stand-in.
abbrev pub RoseIfFault : Taped → Taped → Status → Type 0
RoseIfFault old new status.Done = Unit {0}
RoseIfFault old new status.Usage = Unit {0}
RoseIfFault old new status.NeedsScavenge = Unit {0}
RoseIfFault old new status.DiskFault = Rose old.disk_faults new.disk_faults
RoseIfFault old new status.KeyFault = Rose old.key_faults new.key_faults
RoseIfFault old new status.DisplayFault = Rose old.show_faults new.show_faults
RoseIfFault old new status.Memory = Unit {0}
RoseIfFault old new status.CannotScavenge = Unit {0}
