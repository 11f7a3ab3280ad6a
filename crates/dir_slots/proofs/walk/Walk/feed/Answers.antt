use Rattle.std.proofs.Common.{◌∙◌, ◌++◌, length, take, ap, subst, arith}
use Rattle.std.proofs.lemmas.List.{take_all}
use Rattle.dir_slots.specs.Walks.{Walked}
use Rattle.dir_slots.proofs.walk.Walk.feed.Goals as goal

pub returns-clause-walked : goal.returns-clause-walked
returns-clause-walked c = λ given walked.
    let page = c.args.page.now in
    let met = c.in_default.ensures.meets given (c.loop.invariant.walked given walked) in
    subst (λ l. Walked (given ++ l) c.next.new.self) (ap (λ n. take n page) c.in_default.ensures.none ∙ take_all (length page) page (omega arith)) met.walked
