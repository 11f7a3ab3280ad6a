use Rattle.std.proofs.Common.{◌≡◌, ◌++◌, codes, false, length, ap, ◌∙◌, List, ℕ, arith, length-append}
use Rattle.std.specs.Fmt.{digits}
use Rattle.alto_words.specs.Names.{is_stored_name, lost}
use Rattle.alto_words.proofs.Digits.{length-octal-le}
use Rattle.alto_words.proofs.Made.{is_stored_name-lost, lost-parts}
use Rattle.alto_words.proofs.name.Name.lost.Goals as goal

pub push_octal-requires : goal.push_octal-requires
push_octal-requires c =
    let front = c.push.ensures ∙ ap (λ (t : List ℕ). t ++ codes "Lost") c.new-text.ensures in
    omega (arith, ap length front, length-octal-le c.args.serial (omega arith))

pub push-requires-2 : goal.push-requires-2
push-requires-2 c =
    let front = c.push.ensures ∙ ap (λ (t : List ℕ). t ++ codes "Lost") c.new-text.ensures in
    omega (
      arith,
      ap length front,
      ap length c.push_octal.ensures,
      length-append c.push.new.self (digits 8 false c.args.serial),
      length-octal-le c.args.serial (omega arith),
    )

pub invariant_of-result : goal.invariant_of-result
invariant_of-result c =
    let is : c.push-2.new.self ≡ lost c.args.serial =
    lost-parts c.new-text.result c.push.new.self c.push_octal.new.self c.push-2.new.self c.args.serial c.new-text.ensures c.push.ensures c.push_octal.ensures c.push-2.ensures in
    ap is_stored_name is ∙ is_stored_name-lost c.args.serial (omega arith)

pub returns : goal.returns
returns c =
    lost-parts c.new-text.result c.push.new.self c.push_octal.new.self c.push-2.new.self c.args.serial c.new-text.ensures c.push.ensures c.push_octal.ensures c.push-2.ensures
