use Rattle.std.proofs.Common.{◌≡◌, ◌==◌, ◌+◌, cond, get_or, sym, ap, ◌∙◌, arith, rules}
use Rattle.std.proofs.lemmas.Bool.Decides.{nat_tests}
use Rattle.pack_model.specs.sessions.Descriptor.{data_pages}
use Rattle.scavenger.proofs.Finishing.{descriptor_wanted, root_wanted}
use Rattle.scavenger.proofs.counts.Counts.system_lacks.Goals as goal
use Rattle.scavenger.proofs.counts.Counts.system_lacks.Goals.{then-self, else-self, then-system-eq0, else-system-eq0}

pub returns-clause-lacks : goal.returns-clause-lacks
returns-clause-lacks c = λ p shape is root.
    let two : c.if-self.root ≡ cond c.args.self.now.root 0 2 = elim c.if-self.branch [
      | then-self w ↦ (search rules)
      | else-self w ↦ (search rules)
    ] in
    let all : c.if-system-eq0.descriptor ≡ cond (get_or c.args.system.now.places 0 0 == 0) (1 + data_pages c.args.shape) 0 = elim c.if-system-eq0.branch [
      | then-system-eq0 w ↦ (let pages = w.data_pages.ensures.pages in let same = w.from.ensures in let sum : c.if-system-eq0.descriptor ≡ 1 + data_pages c.args.shape = (let n = w.descriptor-is in omega (arith, n, pages, same)) in sum ∙ sym (ap (λ k. cond (k == 0) (1 + data_pages c.args.shape) 0) w.if-system-eq0.true))
      | else-system-eq0 w ↦ (let is = w.descriptor-is in let some = w.if-system-eq0.false in grind (arith, nat_tests))
    ] in
    let first = root_wanted p c.args.self.now.root c.if-self.root root two in
    let second = descriptor_wanted p c.args.system.now.places c.args.shape c.if-system-eq0.descriptor (data_pages c.args.shape) is.places (λ i. data_pages c.args.shape) all in
    (λ i. first i + second i)
