use Rattle.std.proofs.Common.{◌≡◌, ◌+◌, ◌-◌, ◌≤◌, ◌∙◌, ◌++◌, ℕ, List, length, take, drop, sym, ap, arith}
use Rattle.std.proofs.lemmas.List.{length-drop, length-take-le}
use Rattle.std.proofs.lemmas.Slice.{drop-put_mid, take-put_mid, take-put_mid_below}
use Rattle.dir_slots.proofs.Keyed.{keyed_cleared}
use Rattle.dir_slots.proofs.judged.renew_part.Goals as goal

pub returns-clause-keyed : goal.returns-clause-keyed
returns-clause-keyed c =
    let words = c.args.words.now in
    let keys = c.args.keys.now in
    let at : ℕ = c.args.at in
    let end : ℕ = at + length c.args.part.now in
    let from : ℕ = c.saturating_sub.result in
    let part : List ℕ = c.copy_from_slice.new.self in
    let long : length part ≡ end - at = ap (λ (l : List ℕ). length l) c.copy_from_slice.ensures.after ∙ omega arith in
    let within : at ≤ length words = omega (arith, c.told-words, c.requires.within) in
    let fits : end ≤ length keys = omega (arith, c.told-keys, c.requires.within) in
    let count : length (take (end - from) (drop from keys)) ≡ end - from = length-take-le (end - from) (drop from keys) (omega (arith, length-drop from keys, fits)) in
    keyed_cleared words _ keys c.fill.new.self at end from (take-put_mid_below at (end - at) words part at (omega arith) within) (drop-put_mid at (end - at) words part end (omega arith) within long)
    (omega arith) c.saturating_sub.ensures fits _ count (c.fill.ensures.after (λ y e. e)) c.requires.keyed

pub returns-clause-words : goal.returns-clause-words
returns-clause-words c =
    let words = c.args.words.now in
    let at : ℕ = c.args.at in
    let end : ℕ = at + length c.args.part.now in
    let part : List ℕ = c.copy_from_slice.new.self in
    let is : end ≡ at + length part = ap (λ (l : List ℕ). at + length l) (sym c.copy_from_slice.ensures.after) in
    take-put_mid at (end - at) words part end is (omega (arith, c.told-words, c.requires.within)) ∙ ap (λ (l : List ℕ). take at words ++ l) c.copy_from_slice.ensures.after
