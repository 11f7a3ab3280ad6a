-- The first page of a file among its words as they are read.
use Rattle.std.proofs.Common.{List, None, ap, arith, drop, length, suc, sym, take, zero, ℕ, ◌++◌, ◌*◌, ◌+◌, ◌<◌, ◌∙◌, ◌≡◌, ◌≤◌}
use Rattle.std.proofs.lemmas.Bool.Decides.{nat_tests}
use Rattle.std.proofs.lemmas.List.{append_assoc, get_or-take, length-take-le, take-append-le, take-take, take_all}
use Rattle.std.specs.Prelude.{Bool, false, nat_lt, refl, true}
use Rattle.alto_words.specs.declared.fid.Fid.{Fid}
use Rattle.disk_records.specs.Packs.{Pack, sector_at}
use Rattle.disk_records.specs.Words.{word}
use Rattle.disk_records.specs.declared.records.Sector.{Sector}
use Rattle.disk_records.specs.declared.shape.Shape.{Shape}
use Rattle.label_check.specs.declared.errors.PageInfo.{PageInfo}
use Rattle.pack_model.specs.reading.Bytes.{put_at}
use Rattle.pack_model.specs.states.Sound.{mark_clean}
use Rattle.page_seeking.specs.Seeking.{Seen, Stands, page_number}
use Rattle.disk_descriptor.proofs.Opened.{bad_taken}
use Rattle.disk_descriptor.specs.Opening.{HasCleanPage, bad_word, shape_words}
use Rattle.disk_descriptor.specs.Reading.{HasFirstPage}

-- words before those that were put stay
before_put : (n at : ℕ) (value words : List ℕ) → n ≤ at → at ≤ length words → take n (put_at at value words) ≡ take n words
before_put n at value words low within =
    let long : length (take at words) ≡ at = length-take-le at words within in
    ap (take n) (append_assoc (take at words) value (drop (at + length value) words)) ∙ take-append-le n (take at words) (value ++ drop (at + length value) words) (omega (arith, long, low)) ∙ take-take n at words low

-- one more page is kept
pub first_goes_on : (p : Pack) (f : Fid) (k at : ℕ) (form : Shape) (info : PageInfo) (buffer : Sector) (words words_now : List ℕ) → Seen form (page_number f (k + 1)) at info buffer → Stands p (page_number f (k + 1)) at buffer → length words ≡ 1280
    → (k < 5 → words_now ≡ put_at (256 * k) buffer.value words) → (5 ≤ k → words_now ≡ words) → (0 < k → HasFirstPage p f words) → HasFirstPage p f words_now
first_goes_on p f zero at form info buffer words words_now seen stands long put others first = record {
  at = at;
  carries = stands.carries;
  words_are =
      let many = seen.sized in
      let start : 256 * 0 ≡ 0 = omega arith in
      ap (take 256) (put (omega arith)) ∙ ap (λ n. take 256 (put_at n buffer.value words)) start ∙ take-append-le 256 buffer.value (drop (0 + length buffer.value) words) (omega (arith, many)) ∙ take_all 256 buffer.value (omega (arith, many)) ∙ ap (λ (s : Sector). s.value) stands.holds;
}
first_goes_on p f (suc k) at form info buffer words words_now seen stands long put others first =
    let so_far = first (omega arith) in
    record { at = so_far.at; carries = so_far.carries; words_are = by (nat_lt (suc k) 5) refl ∙ so_far.words_are }
  where
    by : (t : Bool) → nat_lt (suc k) 5 ≡ t → take 256 words_now ≡ take 256 words
    by true e = let low : suc k < 5 = grind (arith, nat_tests) in ap (take 256) (put low) ∙ before_put 256 (256 * suc k) buffer.value words (omega (arith)) (omega (arith, low, long))
    by false e = let high : 5 ≤ suc k = grind (arith, nat_tests) in ap (take 256) (others high)

-- its words were tested
pub clean_page : (p : Pack) (f : Fid) (shape : Shape) (words : List ℕ) → HasFirstPage p f words → p.shape ≡ shape → bad_word (shape_words shape) words ≡ None → word words 6 ≡ mark_clean → HasCleanPage p f
clean_page p f shape words first same right clean = record {
  at = first.at;
  carries = first.carries;
  clean = ap (λ l. word l 6) (sym first.words_are) ∙ get_or-take 256 words 6 0 (omega arith) ∙ clean;
  right =
      ap (λ (s : Shape). bad_word (shape_words s) (sector_at p first.at).value) same
      ∙ ap (bad_word (shape_words shape)) (sym first.words_are)
      ∙ bad_taken (shape_words shape) 256 words (omega arith, (omega arith, (omega arith, (omega arith, (omega arith, tt)))))
      ∙ right;
}
