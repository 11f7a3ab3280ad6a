use Rattle.std.proofs.Common.{◌≡◌, ◌+◌, ◌%◌, ◌/◌, false, ◌++◌, ◌∷◌, [], length, ap, ◌∙◌, inl, inr, arith, length-append}
use Rattle.std.proofs.lemmas.List.{length_push}
use Rattle.std.specs.Fmt.{digits}
use Rattle.alto_words.proofs.Digits.{octal_more, octal_pushed}
use Rattle.alto_words.proofs.text.ShortText.+push_octal.Goals as goal
use Rattle.alto_words.proofs.text.ShortText.+push_octal.Goals.{then-number-ge-BASE, else-number-ge-BASE}

pub push_octal-requires : goal.push_octal-requires
push_octal-requires t c =
    let n = c.args.number in
    let more = octal_more n c.if-number-ge-BASE.true (omega arith) in
    (omega arith, omega (arith, ap length more, length_push (digits 8 false (n / 8)) (48 + n % 8)))

pub push-requires : goal.push-requires
push-requires t c =
    let n = c.args.number in
    let whole : c.if-number-ge-BASE.self ++ (48 + n % 8) ∷ [] ≡ c.args.self.now ++ digits 8 false n =
    octal_pushed c.args.self.now c.if-number-ge-BASE.self n (omega arith)
    (elim c.if-number-ge-BASE.branch [
      | then-number-ge-BASE w ↦ inl (w.if-number-ge-BASE.true, w.self-is ∙ w.push_octal.ensures)
      | else-number-ge-BASE w ↦ inr (w.if-number-ge-BASE.false, w.self-is)
    ]) in
    omega (arith, length_push c.if-number-ge-BASE.self (48 + n % 8), ap length whole, length-append c.args.self.now (digits 8 false n), c.requires)

pub returns : goal.returns
returns t c =
    let n = c.args.number in
    c.push.ensures
    ∙ octal_pushed c.args.self.now c.if-number-ge-BASE.self n (omega arith)
    (elim c.if-number-ge-BASE.branch [
      | then-number-ge-BASE w ↦ inl (w.if-number-ge-BASE.true, w.self-is ∙ w.push_octal.ensures)
      | else-number-ge-BASE w ↦ inr (w.if-number-ge-BASE.false, w.self-is)
    ])
