-- What adds events to a machine, and the record writes of a command.
use Rattle.std.specs.Prelude.{◌≡◌, ℕ, ◌-◌, zero, suc, List}
use Rattle.disk_records.specs.declared.records.Act.{Act}
use Rattle.disk_records.specs.declared.records.Act.TheVariants.{Read, Check, Write}
use Rattle.disk_records.specs.declared.records.Plan.{Plan}
use Rattle.disk_records.specs.declared.records.Event.{Event}
use Rattle.disk_records.specs.Tapes.{Taped, Grown, added}

-- how many record writes an act makes
abbrev pub writes_by : Act → ℕ
writes_by Read = 0
writes_by Check = 0
writes_by Write = 1

-- an act where so many record writes may still be made, and the command that makes the first ones of another
abbrev pub within : Act → ℕ → Act
within Read count = Read
within Check count = Check
within Write zero = Read
within Write (suc count) = Write

abbrev pub first_writes : Plan → ℕ → Plan
first_writes plan count = record {
  header = within plan.header count;
  label = within plan.label (count - writes_by plan.header);
  value = within plan.value (count - writes_by plan.header - writes_by plan.label);
}

-- these events were added; the keys and the count of sector commands stay
pub record Adds (old new : Taped) (more : List Event) : Type 0 where
  pub grown : Grown old new
  pub added : added old new ≡ more
  pub keys : new.keys ≡ old.keys
  pub runs : new.runs ≡ old.runs
