use Rattle.std.proofs.Common.{◌≡◌, ◌≤◌, not, take}
use Rattle.pack_model.specs.states.InUse.{how_many}
use Rattle.disk_descriptor.proofs.values.free_sectors.Given as goal

abbrev pub invariant-loop-at : goal.invariant-loop-at
invariant-loop-at l = record { free : l.free ≡ how_many not (take l.at l.table); few : l.free ≤ l.at }
