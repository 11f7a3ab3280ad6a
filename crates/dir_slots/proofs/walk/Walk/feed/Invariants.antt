use Rattle.std.proofs.Common.{◌≤◌, ◌+◌, ◌-◌, ◌++◌, ℕ, List, length, take}
use Rattle.dir_slots.specs.Walks.{Walked}
use Rattle.dir_slots.proofs.walk.Walk.feed.Given as goal

abbrev pub invariant-loop : goal.invariant-loop
invariant-loop l = record {
  within : l.from ≤ length l.page;
  taken : l.self.place + l.self.held ≤ l.fn.self.place + l.fn.self.held + l.from;
  walked : (given : List ℕ) → Walked given l.fn.self → Walked (given ++ take l.from l.page) l.self;
}

abbrev pub decreases-loop : goal.decreases-loop
decreases-loop l = length l.page - l.from
