use Rattle.std.proofs.Common.{inl, inr, refl, arith}
use Rattle.scav_pages.proofs.Walking.{met_past, took_leader, took_next, took_past}
use Rattle.scav_pages.proofs.files.FileWalk.take.Goals as goal
use Rattle.scav_pages.proofs.files.FileWalk.take.Goals.{then-not-self-via-then-not-self, then-not-self-via-else-not-self+then-row-self}

pub returns-then-row-eq0-clause-walked : goal.returns-then-row-eq0-clause-walked
returns-then-row-eq0-clause-walked c = λ p last b. took_leader b _ c.if-row-eq0.true refl refl refl refl refl

pub returns-then-not-self-clause-walked : goal.returns-then-not-self-clause-walked
returns-then-not-self-clause-walked c = λ p last b. elim c.then-not-self.branch [
  | then-not-self-via-then-not-self w ↦ took_past b c.then-not-self.self c.if-row-eq0.false (inl w.if-not-self.true) (let e = w.self-is in cc) (let e = w.self-is in cc) (let e = w.self-is in cc) (let e = w.self-is in cc) (let e = w.self-is in cc)
  | then-not-self-via-else-not-self+then-row-self w ↦ took_past b c.then-not-self.self c.if-row-eq0.false (inr w.if-row-self.true) (let e = w.self-is in cc) (let e = w.self-is in cc) (let e = w.self-is in cc) (let e = w.self-is in cc) (let e = w.self-is in cc)
]

pub returns-then-not-self-clause-met : goal.returns-then-not-self-clause-met
returns-then-not-self-clause-met c = λ p last b. elim c.then-not-self.branch [
  | then-not-self-via-then-not-self w ↦ met_past b c.if-row-eq0.false (inl w.if-not-self.true)
  | then-not-self-via-else-not-self+then-row-self w ↦ met_past b c.if-row-eq0.false (inr w.if-row-self.true)
]

pub overflow_add-self-2 : goal.overflow_add-self-2
overflow_add-self-2 c = let h = c.args.self.now.within in omega (arith, h)

pub invariant_of-self-2 : goal.invariant_of-self-2
invariant_of-self-2 c = record { within = (let h = c.args.self.now.within in omega (arith, h)); low = omega arith }

pub returns-clause-walked : goal.returns-clause-walked
returns-clause-walked c = λ p last b. took_next b _ c.if-not-self.false c.if-row-self.false refl refl refl refl refl
