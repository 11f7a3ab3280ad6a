use Rattle.std.proofs.Common.{◌-◌, length, take, drop, ap, arith}
use Rattle.std.proofs.lemmas.List.{length-drop, take_rest}
use Rattle.dir_slots.proofs.PassedOver.{bare_entry}
use Rattle.dir_slots.proofs.Words.{name_after}
use Rattle.dir_slots.proofs.others.is_bare_entry.Goals as goal

pub returns : goal.returns
returns c = λ is.
    let words = c.args.words.now in
    let full = c.if-not-has_full_name.false in
    bare_entry words (take (length words - 6) (drop 6 words)) (name_after words) (omega (arith, c.requires.least, ap length (take_rest words 6), length-drop 6 words)) c.requires.first (c.has_full_name.ensures.zero full) (c.has_full_name.ensures.full full)
    (c.spells_bare_name.ensures is)
