use Rattle.std.proofs.Common.{◌≤◌, ◌-◌, ◌∙◌, ◌++◌, ℕ, length, take, drop, Some, sym, ap, subst, arith}
use Rattle.std.proofs.lemmas.List.{length-take, length-drop}
use Rattle.dir_slots.specs.Walks.{Meets}
use Rattle.dir_slots.proofs.Turns.{more_of_page}
use Rattle.dir_slots.proofs.walk.Walk.next.Goals as goal

pub returns-in-Some-clause-meets : goal.returns-in-Some-clause-meets
returns-in-Some-clause-meets c = λ given walked.
    let page = c.args.page.now in
    let from = c.args.from.now in
    let here = c.in-Some.ensures.meets (given ++ take from page) walked in
    let few : c.words.result ≤ length page - from = omega (arith, c.words.ensures, c.in-Some.ensures.within, c.requires.within, length-take (length page - from) (drop from page), length-drop from page) in
    subst (λ l. Meets (given ++ take from page) l c.take_whole.new.self (Some c.in-Some.met))
    (ap (λ (k : ℕ). (given ++ take from page) ++ take k (take (length page - from) (drop from page))) (sym c.words.ensures) ∙ more_of_page given page from c.words.result c.requires.within few) here
