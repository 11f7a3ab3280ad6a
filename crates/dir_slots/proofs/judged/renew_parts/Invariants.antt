use Rattle.std.proofs.Common.{◌≡◌, ◌≤◌, ◌-◌, length, take}
use Rattle.dir_slots.specs.Judged.{AreKeyed}
use Rattle.dir_slots.proofs.judged.renew_parts.Given as goal

abbrev pub invariant-loop-at : goal.invariant-loop-at
invariant-loop-at l = record {
  within : l.at ≤ length l.page;
  keyed : AreKeyed l.words l.keys;
  same : take l.at l.words ≡ take l.at l.page;
}

abbrev pub decreases-loop-at : goal.decreases-loop-at
decreases-loop-at l = length l.page - l.at
