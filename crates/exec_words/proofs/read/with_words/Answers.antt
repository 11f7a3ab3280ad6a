use Rattle.std.proofs.Common.{[], ◌∷◌, sym, ◌∙◌, ap}
use Rattle.exec_words.specs.Grammar.{read_by, words_in}
use Rattle.exec_words.specs.Reading.{three_rows, words_rows}
use Rattle.exec_words.proofs.Rows.{rest_two, rest_three}
use Rattle.exec_words.proofs.Wording.{last_word, next_word, reads_same, reads_option}
use Rattle.exec_words.proofs.read.with_words.Goals as goal

pub returns-in-None : goal.returns-in-None
returns-in-None c =
    let verb = c.args.verb.now in
    let first = c.args.first.now in
    let second = c.cut_at.result.0.now in
    let words = last_word c.args.rest.now second c.cut_at.result.1 c.cut_at.ensures.before c.cut_at.ensures.after c.in-None.is in
    reads_option c.with_two.result (read_by words_rows (verb ∷ first ∷ words_in c.args.rest.now)) c.ok_or.result c.ok_or.ensures.value
    (c.with_two.ensures ∙ rest_two verb first second ∙ sym (ap (λ ws. read_by words_rows (verb ∷ first ∷ ws)) words))

pub returns-in-Some : goal.returns-in-Some
returns-in-Some c =
    let verb = c.args.verb.now in
    let first = c.args.first.now in
    let second = c.cut_at.result.0.now in
    let third = c.in-Some.third in
    let words = next_word c.args.rest.now second c.cut_at.result.1 c.cut_at.ensures.before c.cut_at.ensures.after third c.in-Some.is in
    reads_same c.with_three.result (read_by three_rows (verb ∷ first ∷ second ∷ third.now ∷ [])) (read_by words_rows (verb ∷ first ∷ words_in c.args.rest.now))
    (rest_three verb first second third.now ∙ sym (ap (λ ws. read_by words_rows (verb ∷ first ∷ ws)) words)) c.with_three.ensures
