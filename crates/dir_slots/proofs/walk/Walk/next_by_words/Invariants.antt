use Rattle.std.proofs.Common.{◌≡◌, ◌≤◌, ◌+◌, ◌-◌, ◌++◌, ℕ, List, length, take, None}
use Rattle.dir_slots.specs.Walks.{Walked, Meets}
use Rattle.dir_slots.proofs.walk.Walk.next_by_words.Given as goal

abbrev pub invariant-loop-from : goal.invariant-loop-from
invariant-loop-from l = record {
  on : l.fn.from ≤ l.from;
  place : l.self.place ≡ l.fn.self.place;
  within : l.from ≤ length l.page;
  taken : l.self.place + l.self.held + l.fn.from ≤ l.fn.self.place + l.fn.self.held + l.from;
  meets : (given : List ℕ) → Walked (given ++ take l.fn.from l.page) l.fn.self → Meets (given ++ take l.fn.from l.page) (given ++ take l.from l.page) l.self None;
}

abbrev pub decreases-loop-from : goal.decreases-loop-from
decreases-loop-from l = length l.page - l.from
