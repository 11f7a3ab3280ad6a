use Rattle.std.proofs.Common.{◌≡◌, ◌≢◌, rules, tests}
use Rattle.std.proofs.lemmas.Iterator.{YieldsList-from_slice, IsFirst-from_position}
use Rattle.alto_words.proofs.Marks.{IsFound, mark_found, no_mark_found}
use Rattle.alto_words.proofs.version.mark_in.Goals as goal

found : (c : goal.After-position) → IsFound c.args.text.now c.position.result
found c =
    IsFirst-from_position _ _ _ (λ x. x ≡ 33) (λ x. x ≢ 33) c.position.ensures.ran (YieldsList-from_slice c.args.text.now cc) (λ x q k. search (rules, tests)) (λ x q k. search (rules, tests))

pub returns-clause-some : goal.returns-clause-some
returns-clause-some c = mark_found c.args.text.now c.position.result (found c)

pub returns-clause-none : goal.returns-clause-none
returns-clause-none c = no_mark_found c.args.text.now c.position.result (found c)
