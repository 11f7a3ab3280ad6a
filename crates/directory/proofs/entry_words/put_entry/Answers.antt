use Rattle.std.proofs.Common.{[], ◌∷◌, ◌≡◌, ◌∙◌, ◌+◌, ◌-◌, length, take, ap, arith}
use Rattle.pack_model.specs.reading.Bytes.{put_at}
use Rattle.directory.proofs.WrittenWords.{words_done, words_left}
use Rattle.directory.proofs.entry_words.put_entry.Goals as goal

pub returns-then-left-eq0-clause-words : goal.returns-then-left-eq0-clause-words
returns-then-left-eq0-clause-words c =
    let count = c.entry_words-count.result in
    let filled = c.name_words-filled.result in
    let fits = c.name_words-filled.type_inv in
    let sized : length filled ≡ 20 = omega arith in
    ap (take count) (c.put_words-2.ensures ∙ ap (put_at 6 (take (count - 6) filled)) c.put_words.ensures)
    ∙ words_done c.args.fid c.args.leader_at c.args.name.now count filled c.args.words.now c.entry_words-count.ensures.words c.name_words-filled.ensures.words c.name_words-filled.ensures.stored sized c.args.left c.if-left-eq0.true

pub returns-clause-words : goal.returns-clause-words
returns-clause-words c =
    let count = c.entry_words-count.result in
    let filled = c.name_words-filled.result in
    let fits = c.name_words-filled.type_inv in
    let sized : length filled ≡ 20 = omega arith in
    let both = c.put_words-2.ensures ∙ ap (put_at 6 (take (count - 6) filled)) c.put_words.ensures in
    let size = ap length both in
    let known = c.put_words-3.type_inv in
    ap (take (count + 1)) (c.put_words-3.ensures ∙ ap (put_at count (c.args.left ∷ [])) both)
    ∙ words_left c.args.fid c.args.leader_at c.args.name.now count filled c.args.words.now c.entry_words-count.ensures.words c.name_words-filled.ensures.words c.name_words-filled.ensures.stored sized c.args.left (omega (arith, c.if-left-eq0.false)) (omega (arith, size))
