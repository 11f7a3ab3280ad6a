use Rattle.std.proofs.Common.{◌≡◌, ◌∙◌, ◌++◌, ◌+◌, length, take, drop, true, Some, None, sym, ap, subst, arith}
use Rattle.dir_slots.specs.Walks.{Meets}
use Rattle.dir_slots.proofs.Turns.{then_meets, ended_stays, one_more, rest_of_page}
use Rattle.dir_slots.proofs.walk.Walk.next_by_words.Goals as goal
use Rattle.dir_slots.proofs.walk.Walk.next_by_words.Goals.{then-loop-from-test+else-not-self, else-loop-from-test}

pub returns-in-Some-clause-meets : goal.returns-in-Some-clause-meets
returns-in-Some-clause-meets c = λ given walked.
    let page = c.args.page.now in
    let from = c.loop-from.from in
    let before = c.loop-from.invariant.meets given walked in
    let here = c.in-Some.ensures.meets (given ++ take from page) before.walked in
    then_meets (given ++ take c.args.from.now page) (given ++ take from page) (given ++ take (from + 1) page) c.loop-from.self c.step.new.self (Some c.in-Some.met) before
    (subst (λ l. Meets (given ++ take from page) l c.step.new.self (Some c.in-Some.met)) (one_more given page from 0 c.loop-from-test.true) here)

pub loop-from-preserved : goal.loop-from-preserved
loop-from-preserved c = record {
  on = omega (arith, c.loop-from.invariant.on);
  place = c.in_default.ensures.place ∙ c.loop-from.invariant.place;
  within = omega (arith, c.loop-from-test.true);
  taken = omega (arith, c.loop-from.invariant.taken, c.in_default.ensures.taken);
  meets = λ given walked.
      let page = c.args.page.now in
      let from = c.loop-from.from in
      let before = c.loop-from.invariant.meets given walked in
      let here = c.in_default.ensures.meets (given ++ take from page) before.walked in
      then_meets (given ++ take c.args.from.now page) (given ++ take from page) (given ++ take (from + 1) page) c.loop-from.self c.step.new.self None before
      (subst (λ l. Meets (given ++ take from page) l c.step.new.self None) (one_more given page from 0 c.loop-from-test.true) here);
}

pub returns-clause-meets : goal.returns-clause-meets
returns-clause-meets c = λ given walked.
    let page = c.args.page.now in
    let from = c.loop-from.from in
    let before = c.loop-from.invariant.meets given walked in
    elim c.loop-from-test.branch [
      | then-loop-from-test+else-not-self w ↦
          let last : c.loop-from.self.ended ≡ true = ap (λ k. k.ended) (sym c.self.view_is) ∙ w.if-not-self.false in
          then_meets (given ++ take c.args.from.now page) (given ++ take from page) (given ++ take (length page) page) c.loop-from.self c.loop-from.self None before
          (subst (λ l. Meets (given ++ take from page) l c.loop-from.self None) (rest_of_page given page from) (ended_stays (given ++ take from page) (drop from page) c.loop-from.self before.walked last))
      | else-loop-from-test w ↦
          let all : from ≡ length page = omega (arith, w.loop-from-test.false, c.loop-from.invariant.within) in
          subst (λ n. Meets (given ++ take c.args.from.now page) (given ++ take n page) c.loop-from.self None) all before
    ]
