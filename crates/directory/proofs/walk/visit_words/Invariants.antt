use Rattle.std.proofs.Common.{◌≡◌, ◌≤◌, ◌+◌, ◌-◌, ◌++◌, ℕ, List, length, take}
use Rattle.dir_slots.specs.Walks.{Walked}
use Rattle.directory.specs.Visits.{Visits}
use Rattle.directory.proofs.walk.visit_words.Given as goal

abbrev pub invariant-loop-met : goal.invariant-loop-met
invariant-loop-met g l = record {
  within : l.from ≤ length l.words;
  taken : l.walk.place + l.walk.held ≤ l.fn.walk.place + l.fn.walk.held + l.from;
  visits : (given : List ℕ) → Walked given l.fn.walk → Visits g.V.Visit.step given (given ++ take l.from l.words) l.walk l.fn.visitor l.visitor;
  same : l.cache ≡ l.fn.cache;
}

abbrev pub decreases-loop-met : goal.decreases-loop-met
decreases-loop-met g l = length l.words - l.from
