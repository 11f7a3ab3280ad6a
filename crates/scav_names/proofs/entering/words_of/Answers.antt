use Rattle.std.proofs.Common.{◌≡◌, [], ◌∷◌, ◌++◌, length, ap, ◌∙◌, arith, rules}
use Rattle.std.proofs.lemmas.List.{length_push}
use Rattle.scav_names.proofs.entering.words_of.Goals as goal
use Rattle.scav_names.proofs.entering.words_of.Goals.{then-left-gt0+in_ok-push, else-left-gt0}

pub returns-clause-most : goal.returns-clause-most
returns-clause-most c =
    let size = c.in_ok-words.ensures.length in
    let most = c.entry_words.ensures in
    elim c.if-left-gt0.branch [
      | then-left-gt0+in_ok-push w ↦ (let e : c.if-left-gt0.words ≡ c.in_ok-words.words ++ c.saturating_sub-left.result ∷ [] = search rules in let long = ap length e ∙ length_push c.in_ok-words.words c.saturating_sub-left.result in omega (arith, size, most.most, most.words, long))
      | else-left-gt0 w ↦ (let e = ap length w.words-is in omega (arith, size, most.most, most.words, e))
    ]

pub returns-clause-some : goal.returns-clause-some
returns-clause-some c =
    let size = c.in_ok-words.ensures.length in
    let least = c.entry_words.ensures in
    elim c.if-left-gt0.branch [
      | then-left-gt0+in_ok-push w ↦ (let e : c.if-left-gt0.words ≡ c.in_ok-words.words ++ c.saturating_sub-left.result ∷ [] = search rules in let long = ap length e ∙ length_push c.in_ok-words.words c.saturating_sub-left.result in omega (arith, long))
      | else-left-gt0 w ↦ (let e = ap length w.words-is in omega (arith, size, least.least, least.words, e))
    ]

pub returns-clause-fits : goal.returns-clause-fits
returns-clause-fits c = λ enough.
    let size = c.in_ok-words.ensures.length in
    let left = c.saturating_sub-left.ensures in
    let words = c.entry_words.ensures.words in
    elim c.if-left-gt0.branch [
      | then-left-gt0+in_ok-push w ↦ (let e : c.if-left-gt0.words ≡ c.in_ok-words.words ++ c.saturating_sub-left.result ∷ [] = search rules in let long = ap length e ∙ length_push c.in_ok-words.words c.saturating_sub-left.result in let some = w.if-left-gt0.true in omega (arith, size, long, left, words, some, enough))
      | else-left-gt0 w ↦ (let e = ap length w.words-is in omega (arith, size, words, e, enough))
    ]
