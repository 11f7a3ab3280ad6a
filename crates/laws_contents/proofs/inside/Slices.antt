-- A file's bytes as slices that its pages hold.
use Rattle.std.proofs.Common.{List, Some, [], ap, arith, drop, length, min, refl, suc, sym, take, ℕ, ◌%◌, ◌*◌, ◌++◌, ◌+◌, ◌/◌, ◌∙◌, ◌∷◌, ◌≡◌, ◌≤◌}
use Rattle.std.proofs.Math.Seq.{drop-append_seam, take-append-add}
use Rattle.std.proofs.lemmas.List.{length-append, length-drop, length-take, take-append-drop}
use Rattle.laws_record.specs.disk_records.specs.Labels.{tag}
use Rattle.laws_record.specs.disk_records.specs.Packs.{Pack, sector_at}
use Rattle.laws_record.specs.pack_model.specs.reading.Bytes.{bytes_of}
use Rattle.laws_record.specs.pack_model.specs.reading.Files.{file_bytes}
use Rattle.laws_record.specs.pack_model.specs.reading.Sights.{sights}
use Rattle.laws_record.specs.pack_laws.proofs.Paging.{byte_of_file}
use Rattle.laws_record.specs.pack_laws.proofs.Placing.{place_of_page, short_pages}
use Rattle.laws_contents.proofs.inside.Counted.{labels_count, pages_are_their_counted_bytes}
use Rattle.laws_contents.proofs.inside.Full.{full_before, full_before_the_next, split_at}
use Rattle.laws_contents.proofs.inside.Parts.{drop_first, drop_parts, first_item, items_of_part, length-parts, part_goes_on, part_is_next, take_part}
use Rattle.laws_contents.specs.ByteContents.{BytesStandInTheirPage, EachByteHasItsPage, PageGoesOn, PageIsASlice, PagesInARowAreASlice, all_bytes_at}
use Rattle.laws_contents.specs.PageLaws.{FullBefore, bytes_at}

-- ---- one page
pub page_is_a_slice : PageIsASlice
page_is_a_slice p f k at h e =
    let s = split_at p f k at h e in
    let all : List ℕ = file_bytes (sights p) f in
    let is = part_is_next (512 * k) 512 all (bytes_at p at) s.parts (labels_count p f k at e).most s.short in
    record {
      within = length-parts (512 * k) all (bytes_at p at) s.parts;
      size = ap length is ∙ length-take 512 (drop (512 * k) all) ∙ ap (min 512) (length-drop (512 * k) all);
      is = is;
    }

pub page_goes_on : PageGoesOn
page_goes_on p f k at h e = part_goes_on (512 * k) (file_bytes (sights p) f) (bytes_at p at) (split_at p f k at h e).parts

-- ---- bytes of one page
-- those that count are those of the value
counted_part : (p : Pack) (at r n : ℕ) → r + n ≤ length (bytes_at p at) → take n (drop r (bytes_at p at)) ≡ take n (drop r (bytes_of (sector_at p at).value))
counted_part p at r n fits =
    let count : ℕ = (tag (sector_at p at).label).bytes in
    let value : List ℕ = bytes_of (sector_at p at).value in
    let size : length (bytes_at p at) ≡ min count (length value) = length-take count value in
    sym (take_part n r (bytes_at p at) (drop count value) fits) ∙ ap (λ x. take n (drop r x)) (take-append-drop count value)

pub bytes_stand_in_their_page : BytesStandInTheirPage
bytes_stand_in_their_page p f offset n at h e fits =
    let z : offset ≡ 512 * (offset / 512) + offset % 512 = omega arith in
    ap (λ m. take n (drop m (file_bytes (sights p) f))) z
    ∙ items_of_part (512 * (offset / 512)) n (offset % 512) (file_bytes (sights p) f) (bytes_at p at) (split_at p f (offset / 512) at h e).parts fits
    ∙ counted_part p at (offset % 512) n fits

pub each_byte_has_its_page : EachByteHasItsPage
each_byte_has_its_page p f offset l =
    let b = byte_of_file (sights p) f offset (short_pages p f) l in
    let x = place_of_page (sights p) f (offset / 512) b.bytes b.there in
    let same : Some (bytes_at p x.0) ≡ Some b.bytes = sym ((pages_are_their_counted_bytes p f (offset / 512)).there x.0 x.1) ∙ b.there in
    let is : bytes_at p x.0 ≡ b.bytes = cc in
    let size = ap length is in
    let within = b.within in
    let h : FullBefore p f (offset / 512) = full_before p f (offset / 512) b.before in
    record {
      at = x.0;
      sector = x.1;
      before = h;
      within = omega arith;
      byte = first_item (file_bytes (sights p) f) (bytes_of (sector_at p x.0).value) offset (offset % 512) (bytes_stand_in_their_page p f offset 1 x.0 h x.1 (omega arith));
    }

-- ---- several pages
-- the first of all items that a part, and then the first of the rest, make
take_more : (part more all rest : List ℕ) → all ≡ part ++ rest → more ≡ take (length more) rest → part ++ more ≡ take (length (part ++ more)) all
take_more part more all rest is e =
    let size = length-append part more in
    ap (λ x. part ++ x) e ∙ sym (take-append-add part rest (length more)) ∙ ap (λ n. take n (part ++ rest)) (sym size) ∙ ap (take (length (part ++ more))) (sym is)

pub pages_in_a_row_are_a_slice : PagesInARowAreASlice
pages_in_a_row_are_a_slice p f k [] h row = refl
pages_in_a_row_are_a_slice p f k (at ∷ []) h row =
    let s = (split_at p f k at h row.0).parts in
    take_more (bytes_at p at) [] (drop (512 * k) (file_bytes (sights p) f)) s.rest (drop_first (512 * k) (file_bytes (sights p) f) (bytes_at p at) s) refl
pages_in_a_row_are_a_slice p f k (at ∷ next ∷ ats) h row =
    let s = (split_at p f k at h row.0).parts in
    let full : length (bytes_at p at) ≡ 512 = row.1 (omega arith) in
    let z : 512 * suc k ≡ 512 * k + 512 = omega arith in
    let later : drop (512 * suc k) (file_bytes (sights p) f) ≡ s.rest =
    ap (λ n. drop n (file_bytes (sights p) f)) z ∙ drop_parts (512 * k) 512 (file_bytes (sights p) f) (bytes_at p at) s
    ∙ ap (λ n. drop n (bytes_at p at ++ s.rest)) (sym full) ∙ drop-append_seam (bytes_at p at) s.rest in
    take_more (bytes_at p at) (all_bytes_at p (next ∷ ats)) (drop (512 * k) (file_bytes (sights p) f)) s.rest (drop_first (512 * k) (file_bytes (sights p) f) (bytes_at p at) s)
    (pages_in_a_row_are_a_slice p f (suc k) (next ∷ ats) (full_before_the_next p f k h (record { at = at; sector = row.0; full = full })) row.2 ∙ ap (take (length (all_bytes_at p (next ∷ ats)))) later)
