-- Where pages are, and which of a sector's bytes count.
use Rattle.std.proofs.Common.{false, cond, None, Some, ap, arith, length, ltb-true, min, refl, subst, suc, sym, true, ℕ, ◌<◌, ◌∙◌, ◌≡◌, ◌≤◌, Bool}
use Rattle.std.proofs.lemmas.Bool.{false_from_ne_true}
use Rattle.std.proofs.lemmas.List.{get_or_default, length-take}
use Rattle.std.specs.Prelude.{nat_lt, get_or}
use Rattle.laws_record.specs.alto_words.specs.declared.fid.Fid.{Fid}
use Rattle.laws_record.specs.disk_records.specs.Labels.{Tag, in_range, tag}
use Rattle.laws_record.specs.disk_records.specs.Packs.{Pack, carried, no_sector, sector_at}
use Rattle.laws_record.specs.pack_model.specs.operations.PageWords.{page_number}
use Rattle.laws_record.specs.pack_model.specs.reading.Bytes.{bytes_of}
use Rattle.laws_record.specs.pack_model.specs.reading.Files.{carries_page, page, place}
use Rattle.laws_record.specs.pack_model.specs.reading.Sights.{sights}
use Rattle.laws_record.specs.pack_model.specs.reading.Sights.Sight.{hidden}
use Rattle.laws_record.specs.pack_laws.proofs.Bytes.{length-bytes_of}
use Rattle.laws_record.specs.pack_laws.proofs.Carrying.{carried_shown}
use Rattle.laws_record.specs.pack_laws.proofs.Guarding.{carried_parts, usable_within}
use Rattle.laws_record.specs.pack_laws.proofs.Placing.{no_page, page_of_place, place_from}
use Rattle.laws_record.specs.pack_laws.proofs.Sighted.{ShowsPage, counted, length-sights, shows_page, sights-get}
use Rattle.laws_record.proofs.Carried.{carried_shows, carries_within}
use Rattle.laws_record.proofs.Copying.{place_carried}
use Rattle.laws_record.proofs.Heads.{and_right}
use Rattle.laws_contents.specs.PageLaws.{CarriedOnceIsInPlace, FormedPagesHave256Words, LabelsCount, OnceIsByLabels, PageNumbersAreWords, PagesAreTheirCountedBytes, bytes_at}

-- ---- where a page is
pub carried_once_is_in_place : CarriedOnceIsInPlace
carried_once_is_in_place p page at once is =
    let here = carried_shows p at page is in
    let l = carries_within (sights p) page.fid page.number at here in
    place_from (sights p) page.fid page.number at (record {
      within = l;
      carries = λ d. ap (carries_page page.fid page.number) (get_or_default (sights p) at d hidden l) ∙ here;
      lowest = λ j d low. false_from_ne_true (carries_page page.fid page.number (get_or (sights p) j d)) (λ yes.
          let same = once page.fid page.number j at (ap (carries_page page.fid page.number) (sym (get_or_default (sights p) j d hidden (omega arith))) ∙ yes) here in omega arith);
    })

pub once_is_by_labels : OnceIsByLabels
once_is_by_labels p = (
  (λ once i j page a b. once page.fid page.number i j (carried_shows p i page a) (carried_shows p j page b)),
  (λ labels f n i j a b.
      let here : (k : ℕ) → carries_page f n (get_or (sights p) k hidden) ≡ true → carried p k ≡ Some (page_number f n) =
      λ k e. carried_shown p k (page_number f n) hidden (subst (λ m. k < m) (length-sights p) (carries_within (sights p) f n k e)) e in
      labels i j (page_number f n) (here i a) (here j b)),
)

-- a page number in range is a word
number_below : (t : Tag) → in_range t ≡ true → t.page < 65536
unfolding in_range
number_below t e = ltb-true t.page 65536 (and_right _ (nat_lt t.page 65536) e)

pub page_numbers_are_words : PageNumbersAreWords
page_numbers_are_words p f n at e =
    let page = carried_parts p at (page_number f n) (place_carried p (page_number f n) at e) in
    named (in_range (tag (sector_at p at).label)) refl page.1
  where
    named : (b : Bool) → in_range (tag (sector_at p at).label) ≡ b → cond b (Some (page_number (tag (sector_at p at).label).fid (tag (sector_at p at).label).page)) None ≡ Some (page_number f n) → n < 65536
    named true r e =
        let same : page_number (tag (sector_at p at).label).fid (tag (sector_at p at).label).page ≡ page_number f n = cc in
        let number = ap (λ x. x.number) same in
        let low = number_below (tag (sector_at p at).label) r in omega arith
    named false r e = absurd cc

-- ---- the bytes that count
-- what the place of a data page shows
pub shown_at : (p : Pack) (f : Fid) (k at : ℕ) → place (sights p) f (suc k) ≡ Some at → ShowsPage p.shape at (sector_at p at) f k (bytes_at p at)
shown_at p f k at e =
    let h = page_of_place (sights p) f k at e in
    let l : at < length p.sectors = subst (λ n. at < n) (length-sights p) h.within in
    let s = shows_page p.shape at (sector_at p at) f k h.bytes (sym (sights-get p at hidden l) ∙ h.shows hidden) in
    subst (ShowsPage p.shape at (sector_at p at) f k) s.bytes_are s

pub pages_are_their_counted_bytes : PagesAreTheirCountedBytes
pages_are_their_counted_bytes p f k = record {
  there = λ at e.
      let h = page_of_place (sights p) f k at e in
      let l : at < length p.sectors = subst (λ n. at < n) (length-sights p) h.within in
      let s = shows_page p.shape at (sector_at p at) f k h.bytes (sym (sights-get p at hidden l) ∙ h.shows hidden) in
      h.page_is ∙ ap Some s.bytes_are;
  missing = no_page (sights p) f k;
}

pub formed_pages_have_256_words : FormedPagesHave256Words
formed_pages_have_256_words p at page formed is = (formed at no_sector (usable_within p at (carried_parts p at page is).0)).value

pub labels_count : LabelsCount
labels_count p f k at e =
    let s = shown_at p f k at e in
    let most : (tag (sector_at p at).label).bytes ≤ 512 = counted (tag (sector_at p at).label) s.ranged in
    let size : length (bytes_at p at) ≡ min (tag (sector_at p at).label).bytes (length (bytes_of (sector_at p at).value)) = length-take (tag (sector_at p at).label).bytes (bytes_of (sector_at p at).value) in
    let twice = length-bytes_of (sector_at p at).value in
    record { most = omega arith; says = λ long. omega arith }
