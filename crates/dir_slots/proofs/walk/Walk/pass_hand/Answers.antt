use Rattle.std.proofs.Common.{◌≡◌, ◌+◌, ◌-◌, ◌%◌, ◌≤◌, ◌++◌, ◌∙◌, ℕ, List, length, take, drop, get_or, refl, sym, ap, subst, arith}
use Rattle.std.proofs.lemmas.List.{length-drop, length-take-le}
use Rattle.dir_slots.specs.Walks.{Walked}
use Rattle.dir_slots.proofs.PassedOver.{passes_hand}
use Rattle.dir_slots.proofs.walk.Walk.pass_hand.Goals as goal

pub returns-clause-passes : goal.returns-clause-passes
returns-clause-passes c = λ given walked.
    let page = c.args.page.now in
    let from : ℕ = c.args.from.now in
    let held : ℕ = c.self.inside.held in
    let front = c.self.inside.front in
    let fresh = c.hold_rest.new.front in
    let size : ℕ = get_or front 0 0 % 1024 in
    let more : held ≤ size = omega (arith, c.if-size-self.false) in
    let few : size - held ≤ length page - from = omega (arith, c.if-rest-page.false) in
    let count : from + (size - held) - from ≡ size - held = omega arith in
    let words_are : take (from + (size - held) - from) (drop from page) ≡ take (size - held) (drop from page) = ap (λ (k : ℕ). take k (drop from page)) count in
    let long : length (take (from + (size - held) - from) (drop from page)) ≡ size - held = ap (λ (l : List ℕ). length l) words_are ∙ length-take-le (size - held) (drop from page) (omega (arith, few, length-drop from page)) in
    let all : held + length (take (from + (size - held) - from) (drop from page)) ≡ size = omega (arith, long, more) in
    passes_hand c.args.passing.now page given from c.self.inside.place held size c.in-Some.field-0 front fresh c.self.inside.ended
    (subst (Walked (given ++ take from page)) (sym c.self.view_is) walked) c.if-self.false (omega (arith, c.if-self-eq0.false)) refl more (omega (arith, c.if-size-gt-MAX_ENTRY_WORDS.false)) c.requires.within few
    (ap (λ (k : ℕ). take k fresh) (sym all) ∙ c.hold_rest.ensures.all ∙ ap (λ l. take held front ++ l) words_are) c.in-Some.ensures.other
