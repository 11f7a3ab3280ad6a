use Rattle.std.proofs.Common.{◌≡◌, ℕ, suc, ◌<◌, List, [], ◌∷◌, Some, get_or, drop, length, add-one, drop-cons, sym, ap, subst, ◌∙◌, arith, rules}
use Rattle.std.proofs.lemmas.List.{drop_all}
use Rattle.disk_records.specs.Tapes.{pack}
use Rattle.disk_records.proofs.Growing.{alone_twice}
use Rattle.disk_records.proofs.Framing.{usable_twice}
use Rattle.pack_model.specs.operations.PageWords.{in_page}
use Rattle.scav_pages.proofs.Causing.{cause_of_part}
use Rattle.scav_names.specs.declared.words.DirWord.{DirWord}
use Rattle.scav_names.specs.Words.{IsInWords, page_with}
use Rattle.scav_names.proofs.PageWriting.{carries_seated, page_written_more, words_done, words_next, words_stop}
use Rattle.scav_names.proofs.words.write_in_page.Goals as goal

abbrev zero_word : DirWord
zero_word = record { dir = record { high = 0; low = 0; version = 0 }; place = 0; word = 0 }

-- the word numbered `more` is the first that is left
first_left : (words : List DirWord) (more : ℕ) → more < length words → drop more words ≡ get_or words more zero_word ∷ drop (suc more) words
first_left words more l = drop-cons words more zero_word l

head_is : {w v : DirWord} {ws vs : List DirWord} → w ∷ ws ≡ v ∷ vs → w ≡ v
head_is e = cc

pub returns-in_err-put_words-clause-writes : goal.returns-in_err-put_words-clause-writes
returns-in_err-put_words-clause-writes g c = λ told seated.
    let words = c.args.words.now in
    let more = c.loop-more.more in
    let so_far = c.loop-more.invariant.words told seated in
    let page : page_with (get_or words more zero_word).dir (get_or words more zero_word).place ≡ Some c.args.row.now.page = search rules in
    words_stop so_far (first_left words more (let t = c.loop-more-test in omega (arith, t.true))) page c.in_err-put_words.field-0.0 c.from_residual.result c.in_err-put_words.ensures.alone.grown
    (c.in_err-put_words.ensures.writes told (carries_seated (pack (g.D.Tape.tape c.loop-more.disk)) c.args.row.now so_far.seated)) c.from_residual.ensures.1

pub returns-in_err-put_words-clause-alone : goal.returns-in_err-put_words-clause-alone
returns-in_err-put_words-clause-alone g c = alone_twice c.loop-more.invariant.alone c.in_err-put_words.ensures.alone

pub returns-in_err-put_words-clause-frame : goal.returns-in_err-put_words-clause-frame
returns-in_err-put_words-clause-frame g c = usable_twice c.loop-more.invariant.alone c.in_err-put_words.ensures.alone c.loop-more.invariant.frame c.in_err-put_words.ensures.frame

pub loop-more-preserved : goal.loop-more-preserved
loop-more-preserved g c = record {
  done = let d = c.loop-more.invariant.done in omega (arith, d);
  within = let t = c.loop-more-test in omega (arith, t.true);
  alone = alone_twice c.loop-more.invariant.alone c.in_ok-put_words.ensures.alone;
  unfailed = c.in_ok-put_words.ensures.cause ∙ c.loop-more.invariant.unfailed;
  frame = usable_twice c.loop-more.invariant.alone c.in_ok-put_words.ensures.alone c.loop-more.invariant.frame c.in_ok-put_words.ensures.frame;
  wrote = λ told was. (let x = c.loop-more.invariant.wrote told was in page_written_more c.args.row.now.at (in_page (get_or c.args.words.now c.loop-more.more zero_word).place) ((get_or c.args.words.now c.loop-more.more zero_word).word ∷ []) c.args.row.now.page x c.in_ok-put_words.ensures.alone.grown (c.in_ok-put_words.ensures.writes told x.carries).ok);
  words = λ told seated.
      let words = c.args.words.now in
      let more = c.loop-more.more in
      let so_far = c.loop-more.invariant.words told seated in
      let page : page_with (get_or words more zero_word).dir (get_or words more zero_word).place ≡ Some c.args.row.now.page = search rules in
      words_next so_far (first_left words more (let t = c.loop-more-test in omega (arith, t.true))) page c.in_ok-put_words.ensures.alone.grown
      (c.in_ok-put_words.ensures.writes told (carries_seated (pack (g.D.Tape.tape c.loop-more.disk)) c.args.row.now so_far.seated)).ok (ap (λ n. drop n words) (add-one more));
}

pub returns-else-eq-clause-writes : goal.returns-else-eq-clause-writes
returns-else-eq-clause-writes g c = λ told seated. words_done (c.loop-more.invariant.words told seated) (λ w ws is.
    let words = c.args.words.now in
    let more = c.loop-more.more in
    let same : w ≡ get_or words more zero_word = head_is (sym is ∙ first_left words more (let t = c.loop-more-test in omega (arith, t.true))) in (
      λ page. (let there : page_with (get_or words more zero_word).dir (get_or words more zero_word).place ≡ Some c.args.row.now.page = ap (λ x. page_with x.dir x.place) (sym same) ∙ page in search rules),
      subst (λ x. IsInWords x.dir) (sym same) c.page_with.ensures.words,
    ))

pub returns-after-loop-more-clause-writes : goal.returns-after-loop-more-clause-writes
returns-after-loop-more-clause-writes g c = λ told seated. words_done (c.loop-more.invariant.words told seated) (λ w ws is. (let t = c.loop-more-test.false in let none = drop_all c.loop-more.more c.args.words.now (omega (arith, t)) in cc))

pub returns-in_err-put_words-clause-cause : goal.returns-in_err-put_words-clause-cause
returns-in_err-put_words-clause-cause g c = cause_of_part c.in_err-put_words.field-0.0 c.from_residual.result c.loop-more.invariant.alone c.loop-more.invariant.unfailed c.in_err-put_words.ensures.alone c.in_err-put_words.ensures.cause c.from_residual.ensures.1
