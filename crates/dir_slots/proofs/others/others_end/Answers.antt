use Rattle.std.proofs.Common.{◌≡◌, ◌-◌, ◌++◌, ℕ, length, take, drop, sym, ap, subst, ◌∙◌, arith}
use Rattle.std.proofs.lemmas.List.{take_rest}
use Rattle.dir_slots.specs.Inside.{further}
use Rattle.dir_slots.specs.Others.{Passes}
use Rattle.dir_slots.proofs.PassedOver.{passes_rest, passes_start, rest_at, rest_is, rest_long}
use Rattle.dir_slots.proofs.others.others_end.Goals as goal

pub loop-length-init : goal.loop-length-init
loop-length-init c =
    let page = c.args.page.now in
    let from : ℕ = c.args.from in
    let at : length page - length (take (length page - from) (drop from page)) ≡ from = omega (arith, c.requires, rest_long page from) in
    record {
      within = omega (arith, rest_long page from);
      on = omega (arith, at);
      is = take_rest page from ∙ ap (λ (k : ℕ). drop k page) (sym at);
      passes = λ given walk none going walked.
          subst (λ (k : ℕ). Passes c.args.passing.now (given ++ take from page) (given ++ take k page) (further walk (k - from))) (sym at) (passes_start c.args.passing.now (given ++ take from page) walk from walked);
    }

pub loop-length-preserved : goal.loop-length-preserved
loop-length-preserved c =
    let inv = c.loop-length.invariant in
    let page = c.args.page.now in
    let rest = c.loop-length.rest.now in
    let n : ℕ = c.in-Some.length in
    let few = c.in-Some.ensures.within in
    let at = rest_at page rest n inv.within few in
    record {
      within = omega (arith, inv.within, rest_long rest n);
      on = omega (arith, inv.on, at);
      is = rest_is page rest (length page - length rest) n inv.is ∙ ap (λ (k : ℕ). drop k page) (sym at);
      passes = λ given walk none going walked. passes_rest c.args.passing.now page rest c.args.from n given walk inv.within inv.on inv.is none going (inv.passes given walk none going walked) c.in-Some.ensures.other;
    }
