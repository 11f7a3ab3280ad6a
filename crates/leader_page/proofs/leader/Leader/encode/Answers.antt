use Rattle.std.proofs.Common.{◌∙◌, ◌++◌, List, ℕ, length, take, drop, sym, subst, ap, arith}
use Rattle.leader_page.specs.Pages.{said, Says}
use Rattle.leader_page.proofs.Puts.{all_put}
use Rattle.leader_page.proofs.Values.{value-says, value-name}
use Rattle.leader_page.proofs.leader.Leader.encode.Goals as goal

pub returns-clause-value : goal.returns-clause-value
returns-clause-value c =
    all_put _ _ _ _ _ _ _ _ _ _ _ _
    (ap length c.halves.ensures) (ap length c.halves-2.ensures) (ap length c.halves-3.ensures) (omega arith) (omega arith) (omega arith)
    c.put.ensures c.put-2.ensures c.put-3.ensures c.put-4.ensures c.put-5.ensures c.put-6.ensures
    ∙ (λ i. ((((c.halves.ensures i ++ c.halves-2.ensures i) ++ c.halves-3.ensures i) ++ c.name_words.ensures.words i) ++ c.args.self.now.rest) ++ c.args.self.now.hints)

pub returns-clause-says : goal.returns-clause-says
returns-clause-says c =
    subst (λ (v : List ℕ). Says v (said c.args.self.now) c.args.self.now.hints) (sym (returns-clause-value c))
    (value-says (said c.args.self.now) c.args.self.now.hints c.name_words.ensures.stored (omega arith))

pub returns-clause-name : goal.returns-clause-name
returns-clause-name c =
    ap (λ (v : List ℕ). take 20 (drop 6 v)) (returns-clause-value c)
    ∙ value-name (said c.args.self.now) c.args.self.now.hints c.name_words.ensures.stored (omega arith)
