use Rattle.std.proofs.Common.{◌-◌, ◌==◌, ℕ, get_or, sym, ap, ◌∙◌, arith}
use Rattle.alto_words.specs.Names.{fold_case}
use Rattle.dir_slots.proofs.PassedOver.{other_character, other_long}
use Rattle.dir_slots.proofs.others.is_named_otherwise.Goals as goal

pub returns-then-name-length : goal.returns-then-name-length
returns-then-name-length c = λ _. other_long c.args.words.now c.args.name.now c.requires c.if-name-length.true

pub returns-then-not-is_same_character : goal.returns-then-not-is_same_character
returns-then-not-is_same_character c = λ _.
    let name = c.args.name.now in
    let at : ℕ = c.loop-at.at - 1 in
    other_character c.args.words.now name at c.requires c.if-name-length.false (omega (arith, c.loop-at-test.true)) (omega (arith, c.loop-at.invariant, c.if-name-length.false))
    (ap (λ b. fold_case b == fold_case (get_or name (at - 1) 0)) (sym c.byte_at.ensures) ∙ sym c.is_same_character.ensures ∙ c.if-not-is_same_character.true)
