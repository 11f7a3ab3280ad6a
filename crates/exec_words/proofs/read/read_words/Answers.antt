use Rattle.std.proofs.Common.{[], ◌∷◌, sym, ◌∙◌, ap}
use Rattle.exec_words.specs.Grammar.{grammar, read_by, words_in}
use Rattle.exec_words.specs.Reading.{bytes_rows, words_rows, read_else}
use Rattle.exec_words.proofs.Rows.{rows_alone, rows_one, rest_bytes}
use Rattle.exec_words.proofs.Wording.{last_word, next_word, reads_same, reads_option}
use Rattle.exec_words.proofs.read.read_words.Goals as goal

pub returns-in_default : goal.returns-in_default
returns-in_default c =
    let verb = c.cut_at.result.0.now in
    let words = last_word c.args.text.now verb c.cut_at.result.1 c.cut_at.ensures.before c.cut_at.ensures.after c.in_default.is in
    reads_option c.alone.result (read_by grammar (words_in c.args.text.now)) c.ok_or.result c.ok_or.ensures.value
    (c.alone.ensures ∙ rows_alone verb ∙ sym (ap (λ ws. read_by grammar ws) words))

pub returns-in-None : goal.returns-in-None
returns-in-None c =
    let verb = c.cut_at.result.0.now in
    let first = c.cut_at-2.result.0.now in
    let words = next_word c.args.text.now verb c.cut_at.result.1 c.cut_at.ensures.before c.cut_at.ensures.after c.in-Some.rest c.in-Some.is in
    let more = last_word c.in-Some.rest.now first c.cut_at-2.result.1 c.cut_at-2.ensures.before c.cut_at-2.ensures.after c.in-None.is in
    reads_option c.with_one.result (read_by grammar (words_in c.args.text.now)) c.ok_or-in-None.result c.ok_or-in-None.ensures.value
    (c.with_one.ensures ∙ rows_one verb first ∙ sym (ap (λ ws. read_by grammar ws) (words ∙ ap (λ w. verb ∷ w) more)))

pub returns-in-Some-rest : goal.returns-in-Some-rest
returns-in-Some-rest c =
    let verb = c.cut_at.result.0.now in
    let first = c.cut_at-2.result.0.now in
    let rest = c.in-Some-rest.rest in
    let words = next_word c.args.text.now verb c.cut_at.result.1 c.cut_at.ensures.before c.cut_at.ensures.after c.in-Some.rest c.in-Some.is in
    let more = next_word c.in-Some.rest.now first c.cut_at-2.result.1 c.cut_at-2.ensures.before c.cut_at-2.ensures.after rest c.in-Some-rest.is in
    reads_same c.with_bytes.result (read_else bytes_rows (verb ∷ first ∷ rest.now ∷ []) (read_by words_rows (verb ∷ first ∷ words_in rest.now))) (read_by grammar (words_in c.args.text.now))
    (rest_bytes verb first rest.now ∙ sym (ap (λ ws. read_by grammar ws) (words ∙ ap (λ w. verb ∷ w) more))) c.with_bytes.ensures
