use Rattle.std.proofs.Common.{◌≡◌, ◌-◌, ◌+◌, ◌/◌, length, take, drop, get_or, sym, ◌∙◌, arith}
use Rattle.std.proofs.lemmas.Bool.{and_parts, eqb-true}
use Rattle.dir_slots.proofs.PassedOver.{spelled_even, spelled_odd, split_words}
use Rattle.dir_slots.proofs.others.spells_bare_name.Goals as goal

pub returns-then-first-eq0 : goal.returns-then-first-eq0
returns-then-first-eq0 c = λ is.
    let words = c.args.words.now in
    let size : (get_or words 0 0 / 256 + 2) / 2 ≡ length words = omega (arith, c.if-first-end.false, c.requires.least) in
    let both = and_parts _ _ is in
    spelled_even words (get_or words 0 0) (get_or words (length words - 1) 0) (take (length words - 1 - 1) (drop 1 words)) (split_words words c.requires.least) size c.requires.most
    (sym c.is_name_character-begun.ensures ∙ both.0) (sym c.are_pairs.ensures ∙ c.if-not-are_pairs.false) c.if-first-eq0.true (eqb-true _ _ both.1)

pub returns : goal.returns
returns c = λ is.
    let words = c.args.words.now in
    let size : (get_or words 0 0 / 256 + 2) / 2 ≡ length words = omega (arith, c.if-first-end.false, c.requires.least) in
    let both = and_parts _ _ is in
    spelled_odd words (get_or words 0 0) (get_or words (length words - 1) 0) (take (length words - 1 - 1) (drop 1 words)) (split_words words c.requires.least) size c.requires.most
    (sym c.is_name_character-begun.ensures ∙ both.0) (sym c.are_pairs.ensures ∙ c.if-not-are_pairs.false) c.if-first-eq0.false c.if-last-ne-DOT.false (sym c.is_name_character.ensures ∙ both.1)
