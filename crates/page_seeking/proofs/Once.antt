-- Packs that carry no page twice: the pages of a file, one after another from its first, and what they tell of its length.
use Rattle.std.proofs.Common.{◌≡◌, ◌⊎◌, ℕ, suc, nat_lt, ◌-◌, ◌/◌, ◌<◌, ◌≤◌, Bool, true, false, length, Option, Some, None, IsTrue, inl, inr, refl, sym, ◌∙◌, ap, subst, arith}
use Rattle.std.proofs.lemmas.Bool.Decides.{nat_tests}
use Rattle.alto_words.specs.declared.fid.Fid.{Fid}
use Rattle.disk_records.specs.declared.shape.Shape.{Shape}
use Rattle.disk_records.specs.Packs.{Pack, sector_at}
use Rattle.disk_records.specs.Words.{word}
use Rattle.label_check.specs.declared.errors.PageInfo.{PageInfo}
use Rattle.laws_contents.proofs.ends.Laws.{each_file_has_its_end, last_page_ends_the_file}
use Rattle.laws_contents.proofs.pages.Laws.{carried_once_is_in_place, full_before_each_of_a_whole_pack, full_before_the_next, labels_count, once_is_by_labels, page_numbers_are_words}
use Rattle.laws_contents.specs.PageLaws.{FullBefore, bytes_at}
use Rattle.laws_lookup.specs.laws_record.proofs.Carried.{carried_place}
use Rattle.pack_model.specs.reading.Files.{place}
use Rattle.pack_model.specs.reading.Sights.{sights}
use Rattle.pack_model.specs.states.Sentences.{EachOnce}
use Rattle.pack_model.specs.states.Whole.{Whole}
use Rattle.page_seeking.specs.declared.seek.Found.{Found}
use Rattle.page_seeking.specs.Seeking.{IsEnd, file_length, length_at, page_number}
use Rattle.page_seeking.specs.Inside.{Ends, Known}

one : {a b : ℕ} → ◌≡◌ {A = Option ℕ} (Some a) (Some b) → a ≡ b
one e = cc

-- a whole pack carries no page twice
pub once_of_whole : (p : Pack) → Whole p → EachOnce (sights p)
once_of_whole p whole = (once_is_by_labels p).1 (λ i j page a b. one (sym (carried_place p whole i page a) ∙ carried_place p whole j page b))

-- ---- a page that is known
pub placed_once : {told : Bool} {p : Pack} {form : Shape} {f : Fid} {n : ℕ} {found : Found} → EachOnce (sights p) → IsTrue told → 1 ≤ n → Known told p form (page_number f n) found → place (sights p) f (suc (n - 1)) ≡ Some found.at
placed_once {p = p} {f = f} {n} {found} once told first known =
    let above : suc (n - 1) ≡ n = omega (arith, first) in
    ap (place (sights p) f) above ∙ carried_once_is_in_place p (page_number f n) found.at once (known.carries told)

pub counts_once : {told : Bool} {p : Pack} {form : Shape} {f : Fid} {n : ℕ} {found : Found} → EachOnce (sights p) → IsTrue told → 1 ≤ n → Known told p form (page_number f n) found → length (bytes_at p found.at) ≡ found.info.bytes
counts_once {p = p} {f = f} {n} {found} once told first known = (labels_count p f (n - 1) found.at (placed_once once told first known)).says (known.sized told) ∙ sym (ap (λ (i : PageInfo). i.bytes) (known.tells told))

-- ---- the pages before it
-- fewer of them are full too
pub full_before_less : {p : Pack} {f : Fid} {k : ℕ} (j : ℕ) → j ≤ k → FullBefore p f k → FullBefore p f j
full_before_less {k = k} j less before = record { each = λ i under. before.each i (omega (arith, under, less)) }

-- and with a full one those before the next
pub full_before_next : {told : Bool} {p : Pack} {form : Shape} {f : Fid} {n : ℕ} {found : Found} → EachOnce (sights p) → IsTrue told → 1 ≤ n → Known told p form (page_number f n) found → found.info.bytes ≡ 512 → FullBefore p f (n - 1) → FullBefore p f n
full_before_next {p = p} {f = f} {n} {found} once told first known full before =
    let above : suc (n - 1) ≡ n = omega (arith, first) in
    subst (FullBefore p f) above (full_before_the_next p f (n - 1) before (record { at = found.at; sector = placed_once once told first known; full = counts_once once told first known ∙ full }))

-- those of a page that the file's bytes reach
pub full_before_byte : (p : Pack) (f : Fid) (offset : ℕ) → offset ≤ file_length p f → FullBefore p f (offset / 512)
full_before_byte p f offset within = full_before_less (offset / 512) (omega (arith, within)) (each_file_has_its_end p f).before

-- and on a whole pack those of each page that is known
pub full_before_known : {told : Bool} {p : Pack} {form : Shape} {f : Fid} {n : ℕ} {found : Found} → Whole p → IsTrue told → 1 ≤ n → Known told p form (page_number f n) found → FullBefore p f (n - 1)
full_before_known {p = p} {f = f} {n} {found} whole told first known = full_before_each_of_a_whole_pack p f (n - 1) found.at whole (placed_once (once_of_whole p whole) told first known)

-- ---- the length
-- no page comes after number 65,535
none_after : (p : Pack) (f : Fid) → place (sights p) f 65536 ≡ None
none_after p f = by (place (sights p) f 65536) refl
  where
    by : (r : Option ℕ) → place (sights p) f 65536 ≡ r → place (sights p) f 65536 ≡ None
    by None e = e
    by (Some at) e = absurd (omega (arith, page_numbers_are_words p f 65536 at e))

-- the last page tells it, if all pages before are full
pub length_once : {told : Bool} {p : Pack} {form : Shape} {f : Fid} {n : ℕ} {found : Found} → EachOnce (sights p) → IsTrue told → FullBefore p f (n - 1) → Ends told p form f n found → length_at n found.info.bytes ≡ file_length p f
length_once {p = p} {f = f} {n} {found} once told before x =
    let first = x.first in
    let sector = placed_once once told first x.known in
    let counts = counts_once once told first x.known in
    let most = (labels_count p f (n - 1) found.at sector).most in
    let ends : (length (bytes_at p found.at) < 512) ⊎ (place (sights p) f (suc (suc (n - 1))) ≡ None) = elim x.ends [
      | inl short ↦ inl (omega (arith, counts, most, short))
      | inr top ↦ let next : suc (suc (n - 1)) ≡ 65536 = omega (arith, top) in inr (ap (place (sights p) f) next ∙ none_after p f)
    ] in
    let size = (last_page_ends_the_file p f (n - 1) found.at before sector ends).size in
    omega (arith, size, counts)

-- a page that ends the file tells it, where the pages before number 65,536 are full
pub length_of_all : {told : Bool} {p : Pack} {form : Shape} {f : Fid} {n : ℕ} {found : Found} (k : ℕ) → EachOnce (sights p) → IsTrue told → FullBefore p f k → 65535 ≤ k → Ends told p form f n found → length_at n found.info.bytes ≡ file_length p f
length_of_all {p = p} {f = f} {n} {found} k once told before top x =
    let word = page_numbers_are_words p f (suc (n - 1)) found.at (placed_once once told x.first x.known) in
    length_once once told (full_before_less (n - 1) (omega (arith, word, top)) before) x

-- so does a page before one that isn't there
pub end_once : {p : Pack} {f : Fid} {number n : ℕ} (e : IsEnd p f number n) → EachOnce (sights p) → FullBefore p f (e.last - 1) → n ≡ file_length p f
end_once {p} {f} {number} {n} e once before =
    let count = word (sector_at p e.at).label 3 in
    let last = e.last in
    let first = e.first in
    let small = e.short in
    let above : suc (last - 1) ≡ last = omega (arith, first) in
    let sector : place (sights p) f (suc (last - 1)) ≡ Some e.at = ap (place (sights p) f) above ∙ carried_once_is_in_place p (page_number f last) e.at once e.carries in
    let counts = (labels_count p f (last - 1) e.at sector).says e.sized in
    let size = (last_page_ends_the_file p f (last - 1) e.at before sector (inl (omega (arith, counts, small)))).size in
    let told = e.tells in
    omega (arith, told, size, counts)

-- whatever pages are missing before the last one, the length is at most what it tells
pub most_once : {told : Bool} {p : Pack} {form : Shape} {f : Fid} {n : ℕ} {found : Found} → EachOnce (sights p) → IsTrue told → Ends told p form f n found → file_length p f ≤ length_at n found.info.bytes
most_once {p = p} {f = f} {n} {found} once told x = by (nat_lt (file_length p f / 512) (n - 1)) refl
  where
    by : (t : Bool) → nat_lt (file_length p f / 512) (n - 1) ≡ t → file_length p f ≤ length_at n found.info.bytes
    by true e = let less : file_length p f / 512 < n - 1 = grind (arith, nat_tests) in omega (arith, less)
    by false e =
        let more : n - 1 ≤ file_length p f / 512 = grind (arith, nat_tests) in
        let size = length_once once told (full_before_less (n - 1) more (each_file_has_its_end p f).before) x in
        omega (arith, size)
