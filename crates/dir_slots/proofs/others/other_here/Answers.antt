use Rattle.std.proofs.Common.{◌≡◌, ◌-◌, ◌%◌, ◌≤◌, ℕ, length, take, sym, ap, ◌∙◌, arith}
use Rattle.std.proofs.lemmas.List.{get_or-take, length-take-le}
use Rattle.dir_slots.proofs.PassedOver.{entry_other}
use Rattle.dir_slots.proofs.Stepping.{first_word}
use Rattle.dir_slots.proofs.others.other_here.Goals as goal

pub is_other_entry-requires : goal.is_other_entry-requires
is_other_entry-requires c =
    let words = c.args.words.now in
    let w : ℕ = c.in_ok-first.field-0.now in
    let n : ℕ = w - 1024 in
    let first = first_word words w c.in_ok-first.ensures.value in
    let least : 1032 ≤ w = c.if-first-lt-FEWEST.false in
    let most : w ≤ 1050 = c.if-first-gt-MOST.false in
    let long : length (take n words) ≡ n = length-take-le n words c.if-length-words.false in
    record {
      least = omega (arith, long, least);
      most = omega (arith, long, most);
      first = get_or-take n words 0 0 (omega (arith, least)) ∙ first ∙ omega (arith, long, least);
      ending = c.requires;
    }

pub returns-clause-other : goal.returns-clause-other
returns-clause-other c =
    let words = c.args.words.now in
    let w : ℕ = c.in_ok-first.field-0.now in
    let first = first_word words w c.in_ok-first.ensures.value in
    let least : 1032 ≤ w = c.if-first-lt-FEWEST.false in
    let most : w ≤ 1050 = c.if-first-gt-MOST.false in
    let states : w % 1024 ≡ w - 1024 = omega (arith, least, most) in
    entry_other c.args.passing.now words (w - 1024) (omega (arith, least)) c.if-length-words.false (ap (λ x. x % 1024) first ∙ states) (λ e. absurd (omega (arith, sym first ∙ e, least)))
    (c.is_other_entry.ensures c.if-not-is_other_entry.false)
