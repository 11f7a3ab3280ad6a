use Rattle.std.proofs.Common.{◌≤◌, sym, ◌∙◌, subst, arith}
use Rattle.label_sweep.proofs.Showing.{names_few}
use Rattle.label_sweep.proofs.sight.sight_in.Goals as goal

pub returns-else-number-eq0-clause-counted : goal.returns-else-number-eq0-clause-counted
returns-else-number-eq0-clause-counted c =
    let some = c.if-number-eq0.false in
    (omega (arith, some), subst (λ n. n ≤ 512) (sym c.bytes_in.ensures) (names_few c.args.sector.now.label c.in-Some.field-0 (sym c.page_of.ensures ∙ c.in-Some.is)))
