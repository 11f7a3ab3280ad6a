-- A file's words by the values of its pages.
use Rattle.std.proofs.Common.{List, Some, [], add-one, ap, append-nil, arith, cond, drop, inl, inr, length, refl, subst, suc, sym, take, true, zero, ℕ, ◌%◌, ◌*◌, ◌++◌, ◌+◌, ◌/◌, ◌<◌, ◌∙◌, ◌∷◌, ◌≡◌, ◌≤◌}
use Rattle.std.proofs.lemmas.Bool.{cases_lt, le-leb}
use Rattle.std.proofs.lemmas.List.{length-take, take-append-drop}
use Rattle.std.specs.Prelude.{nat_le}
use Rattle.laws_record.specs.alto_words.specs.Fid.{disk_descriptor}
use Rattle.laws_record.specs.alto_words.specs.declared.fid.Fid.{Fid}
use Rattle.laws_record.specs.disk_records.specs.Labels.{tag}
use Rattle.laws_record.specs.disk_records.specs.Packs.{Pack, sector_at}
use Rattle.laws_record.specs.disk_records.specs.Words.{double, word}
use Rattle.laws_record.specs.pack_model.specs.reading.Bytes.{bytes_of, words_of}
use Rattle.laws_record.specs.pack_model.specs.reading.Files.{file_bytes, place}
use Rattle.laws_record.specs.pack_model.specs.reading.Model.{read_sights}
use Rattle.laws_record.specs.pack_model.specs.reading.Sights.{sights}
use Rattle.laws_record.specs.pack_laws.proofs.Bytes.{length-words_of}
use Rattle.laws_contents.proofs.inside.Counted.{labels_count}
use Rattle.laws_contents.proofs.inside.Ends.{at_least}
use Rattle.laws_contents.proofs.inside.Full.{none_before_the_first, split_at}
use Rattle.laws_contents.proofs.inside.Parts.{Parts, first_item, items_of_part, part_goes_on, part_is_next, take_part}
use Rattle.laws_contents.proofs.inside.Slices.{each_byte_has_its_page}
use Rattle.laws_contents.specs.PageLaws.{FullBefore, bytes_at}
use Rattle.laws_contents.specs.WordContents.{EachWordHasItsPage, FirstPageSaysMarkAndLast, PageWordsAreASlice, PageWordsGoOn, WordStandsInItsPage, WordsStandInTheirPage, file_words, words_at}

-- ---- words of bytes in parts
-- of an even number of bytes, and then of others
words-append : (n : ℕ) (a b : List ℕ) → length a ≡ 2 * n → words_of (a ++ b) ≡ words_of a ++ words_of b
words-append n [] b e = refl
words-append n (x ∷ []) b e = absurd (omega arith)
words-append zero (x ∷ y ∷ a) b e = absurd (omega arith)
words-append (suc n) (x ∷ y ∷ a) b e = ap (λ r. (x * 256 + y) ∷ r) (words-append n a b (omega arith))

-- of the first bytes of words
words_of-front : (n : ℕ) (words : List ℕ) → words_of (take n (bytes_of words)) ≡ take (length (take n (bytes_of words)) / 2) words
words_of-front zero words = refl
words_of-front (suc zero) [] = refl
words_of-front (suc zero) (w ∷ words) = refl
words_of-front (suc (suc n)) [] = refl
words_of-front (suc (suc n)) (w ∷ words) =
    let here : w / 256 * 256 + w % 256 ≡ w = omega arith in
    let half : suc (suc (length (take n (bytes_of words)))) / 2 ≡ suc (length (take n (bytes_of words)) / 2) = omega arith in
    (λ i. here i ∷ words_of-front n words i) ∙ ap (λ m. take m (w ∷ words)) (sym half)

-- the words that count in a sector
words_counted : (p : Pack) (at : ℕ) → words_of (bytes_at p at) ≡ words_at p at
words_counted p at = words_of-front (tag (sector_at p at).label).bytes (sector_at p at).value

length-counted : (p : Pack) (at : ℕ) → length (words_at p at) ≡ length (bytes_at p at) / 2
length-counted p at = ap length (sym (words_counted p at)) ∙ length-words_of (bytes_at p at)

-- ---- a file's words around one of its pages
record WordSplit (p : Pack) (f : Fid) (k at : ℕ) : Type 0 where
  parts : Parts (256 * k) (file_words p f) (words_at p at)
  short : length (words_at p at) < 256 → parts.rest ≡ []
  most : length (words_at p at) ≤ 256

-- bytes of a page, and the rest after it
page_then : (bytes rest : List ℕ) → length bytes ≤ 512 → (length bytes < 512 → rest ≡ []) → words_of (bytes ++ rest) ≡ words_of bytes ++ words_of rest
page_then bytes rest most none = elim (cases_lt (length bytes) 512) [
  | inl short ↦ ap (λ r. words_of (bytes ++ r)) (none short) ∙ ap words_of (append-nil bytes) ∙ sym (append-nil (words_of bytes)) ∙ ap (λ r. words_of bytes ++ words_of r) (sym (none short))
  | inr full ↦ words-append 256 bytes rest (omega arith)
]

split_words : (p : Pack) (f : Fid) (k at : ℕ) → FullBefore p f k → place (sights p) f (suc k) ≡ Some at → WordSplit p f k at
split_words p f k at h e =
    let s = split_at p f k at h e in
    let most = (labels_count p f k at e).most in
    let many = length-counted p at in
    let size = s.parts.size in
    record {
      parts = record {
        first = words_of s.parts.first;
        rest = words_of s.parts.rest;
        all_is = ap words_of s.parts.all_is ∙ words-append (256 * k) s.parts.first (bytes_at p at ++ s.parts.rest) (omega arith)
            ∙ ap (λ x. words_of s.parts.first ++ x) (page_then (bytes_at p at) s.parts.rest most s.short ∙ ap (λ x. x ++ words_of s.parts.rest) (words_counted p at));
        size = length-words_of s.parts.first ∙ (omega arith);
      };
      short = λ l. ap words_of (s.short (omega arith));
      most = omega arith;
    }

pub page_words_are_a_slice : PageWordsAreASlice
page_words_are_a_slice p f k at h e = let s = split_words p f k at h e in part_is_next (256 * k) 256 (file_words p f) (words_at p at) s.parts s.most s.short

pub page_words_go_on : PageWordsGoOn
page_words_go_on p f k at h e = part_goes_on (256 * k) (file_words p f) (words_at p at) (split_words p f k at h e).parts

-- ---- words of one page
pub words_stand_in_their_page : WordsStandInTheirPage
words_stand_in_their_page p f w n at k h stands fits =
    let z : w ≡ 256 * (w / 256) + k = omega (arith, stands.within) in
    let value : List ℕ = (sector_at p at).value in
    let part = length-take (length (bytes_at p at) / 2) value in
    ap (λ m. take n (drop m (file_words p f))) z
    ∙ items_of_part (256 * (w / 256)) n k (file_words p f) (words_at p at) (split_words p f (w / 256) at h (rw add-one at stands.sector)).parts fits
    ∙ sym (take_part n k (words_at p at) (drop (length (bytes_at p at) / 2) value) fits)
    ∙ ap (λ x. take n (drop k x)) (take-append-drop (length (bytes_at p at) / 2) value)

pub each_word_has_its_page : EachWordHasItsPage
each_word_has_its_page p f w l =
    let many = length-words_of (file_bytes (sights p) f) in
    let h = each_byte_has_its_page p f (2 * w + 1) (omega arith) in
    let page : (2 * w + 1) / 512 ≡ w / 256 = omega arith in
    let number : suc ((2 * w + 1) / 512) ≡ w / 256 + 1 = omega arith in
    let within = h.within in
    let counted = length-counted p h.at in
    record {
      at = h.at;
      stands = record { sector = ap (place (sights p) f) (sym number) ∙ h.sector; within = refl };
      before = subst (FullBefore p f) page h.before;
      within = omega arith;
    }

pub word_stands_in_its_page : WordStandsInItsPage
word_stands_in_its_page p f w at k l stands =
    let h = each_word_has_its_page p f w l in
    let both : Some h.at ≡ Some at = sym h.stands.sector ∙ stands.sector in
    let same : h.at ≡ at = cc in
    let size = ap (λ i. length (words_at p i)) same in
    let low = h.within in
    let within = stands.within in
    first_item (file_words p f) (sector_at p at).value w k (words_stand_in_their_page p f w 1 at k h.before stands (omega arith))

-- ---- DiskDescriptor
pub first_page_says_mark_and_last : FirstPageSaysMarkAndLast
unfolding read_sights
first_page_says_mark_and_last p at e long =
    let words : List ℕ = file_words p disk_descriptor in
    let least = at_least p disk_descriptor 0 at (none_before_the_first p disk_descriptor) e in
    let many : length words ≡ length (file_bytes (sights p) disk_descriptor) / 2 = length-words_of (file_bytes (sights p) disk_descriptor) in
    let here : (w : ℕ) → w < 7 → word words w ≡ word (sector_at p at).value w =
    λ w l. let z : w / 256 + 1 ≡ 1 = omega arith in word_stands_in_its_page p disk_descriptor w at w (omega arith) (record { sector = ap (place (sights p) disk_descriptor) z ∙ e; within = omega arith }) in
    let six : nat_le 6 (length words) ≡ true = le-leb 6 (length words) (omega arith) in
    record {
      mark = here 6 (omega arith);
      last = ap (λ b. cond b (double words 4) 0) six ∙ (λ i. here 4 (omega arith) i * 65536 + here 5 (omega arith) i);
    }
