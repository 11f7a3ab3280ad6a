use Rattle.std.proofs.Common.{◌≡◌, ◌≤◌, ◌-◌, take, length, true}
use Rattle.std.specs.List.{list_all}
use Rattle.hint_cache.proofs.table.busy_ahead.Given as goal

abbrev pub invariant-loop-at : goal.invariant-loop-at
invariant-loop-at l = (l.at ≤ length l.bits) × (list_all (λ busy. busy) (take l.at l.bits) ≡ true)

abbrev pub decreases-loop-at : goal.decreases-loop-at
decreases-loop-at l = length l.bits - l.at
