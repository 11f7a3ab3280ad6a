use Rattle.std.proofs.Common.{◌≡◌, ◌≤◌, ◌-◌, ◌++◌, ℕ, false, List, length, take, drop}
use Rattle.dir_slots.specs.Inside.{further}
use Rattle.dir_slots.specs.Others.{Passes}
use Rattle.dir_slots.specs.Walks.{Walked, Walking}
use Rattle.dir_slots.proofs.others.others_end.Given as goal

abbrev pub invariant-loop-length : goal.invariant-loop-length
invariant-loop-length l = record {
  within : length l.rest ≤ length l.page;
  on : l.from ≤ length l.page - length l.rest;
  is : l.rest ≡ drop (length l.page - length l.rest) l.page;
  passes : (given : List ℕ) (walk : Walking) → walk.held ≡ 0 → walk.ended ≡ false → Walked (given ++ take l.from l.page) walk → Passes l.passing (given ++ take l.from l.page) (given ++ take (length l.page - length l.rest) l.page) (further walk (length l.page - length l.rest - l.from));
}

abbrev pub decreases-loop-length : goal.decreases-loop-length
decreases-loop-length l = length l.rest
