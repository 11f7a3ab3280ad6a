use Rattle.std.proofs.Common.{◌∙◌, ap, arith, get_or, inl, inr, length, refl, set, sym, true}
use Rattle.std.proofs.lemmas.List.FromFn.{fill_by_all}
use Rattle.std.proofs.lemmas.List.{get_or-set_other, length-set}
use Rattle.std.proofs.Math.Seq.{get_or-set_same}
use Rattle.hint_cache.specs.Bits.{bit_in}
use Rattle.disk_descriptor.proofs.PagesRead.{less_or_same}
use Rattle.disk_descriptor.proofs.opening.fill_table.Goals as goal

pub loop-at-init : goal.loop-at-init
loop-at-init c = record { sized = refl; done = λ i less. absurd (omega (arith, less)) }

pub loop-at-preserved : goal.loop-at-preserved
loop-at-preserved c =
    let inv = c.loop-at.invariant in
    let at = c.loop-at.at in
    let before = c.loop-at.table in
    record {
      sized = ap length c.set.ensures ∙ length-set before at c.bit_in.result ∙ inv.sized;
      done = λ i under. ap (λ t. get_or t i true) c.set.ensures ∙ elim (less_or_same i at under) [
        | inl less ↦ get_or-set_other before at i c.bit_in.result true (λ is. omega (arith, is, less)) ∙ inv.done i less
        | inr same ↦ ap (λ k. get_or (set before at c.bit_in.result) k true) same ∙ get_or-set_same before at c.bit_in.result true (omega (arith, inv.sized)) ∙ c.bit_in.ensures ∙ ap (bit_in c.args.words.now) (sym same)
      ];
    }

pub returns-clause-bits : goal.returns-clause-bits
returns-clause-bits c =
    let inv = c.loop-at.invariant in
    fill_by_all (bit_in c.args.words.now) c.loop-at.table (length c.args.table.now) true inv.sized (λ k less. inv.done k (omega (arith, less)))
