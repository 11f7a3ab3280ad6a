use Rattle.std.proofs.Common.{ap, sym, ◌∙◌, arith}
use Rattle.std.specs.Prelude.{nat_eq}
use Rattle.std.specs.Cmp.Lexicographic.{pointwise}
use Rattle.std.proofs.lemmas.Bool.Decides.{nat_tests}
use Rattle.alto_words.proofs.Stems.{no_version, version_by_number}
use Rattle.alto_words.proofs.version.version_in.Goals as goal
use Rattle.alto_words.proofs.version.version_in.Goals.{then-n-lt1-via-then-n-lt1, then-n-lt1-via-else-n-lt1+then-n-gt-MAX_VERSION, then-n-lt1-via-else-n-lt1+else-n-gt-MAX_VERSION+then-ne}

pub returns-in_err-n-clause-value : goal.returns-in_err-n-clause-value
returns-in_err-n-clause-value c = c.from_residual.ensures ∙ no_version c.args.digits.now (sym c.in_err-n.ensures)

pub returns-then-n-lt1-clause-value : goal.returns-then-n-lt1-clause-value
returns-then-n-lt1-clause-value c =
    let number = version_by_number c.args.digits.now c.in_ok-n.n (sym c.in_ok-n.ensures) in
    elim c.then-n-lt1.branch [
      | then-n-lt1-via-then-n-lt1 w ↦ grind (arith, nat_tests)
      | then-n-lt1-via-else-n-lt1+then-n-gt-MAX_VERSION w ↦ grind (arith, nat_tests)
      | then-n-lt1-via-else-n-lt1+else-n-gt-MAX_VERSION+then-ne w ↦ let text = ap (pointwise nat_eq c.args.digits.now) (w.as_bytes.ensures.value ∙ w.format.ensures.text) in grind (arith, nat_tests)
    ]

pub returns-clause-value : goal.returns-clause-value
returns-clause-value c =
    let number = version_by_number c.args.digits.now c.in_ok-n.n (sym c.in_ok-n.ensures) in
    let text = ap (pointwise nat_eq c.args.digits.now) (c.as_bytes.ensures.value ∙ c.format.ensures.text) in
    grind (arith, nat_tests)
