-- Where the pages of a directory are.
use Rattle.std.proofs.Common.{◌≡◌, ℕ, zero, suc, ◌+◌, ◌-◌, ◌*◌, ◌<◌, ◌≤◌, ◌&&◌, nat_lt, Bool, true, length, Option, Some, sym, ◌∙◌, ap, add-one, arith}
use Rattle.std.specs.Prelude.{◌==◌}
use Rattle.std.proofs.lemmas.Bool.Decides.{nat_tests}
use Rattle.alto_words.specs.declared.fid.Fid.{Fid}
use Rattle.disk_records.specs.Addresses.{pages_of, real_of}
use Rattle.disk_records.specs.Packs.{Pack, carried, sector_at}
use Rattle.disk_records.specs.Words.{word}
use Rattle.file_pages.specs.laws_contents.proofs.bytes.Laws.{page_is_a_slice}
use Rattle.file_pages.specs.laws_contents.proofs.pages.Laws.{carried_once_is_in_place, labels_count}
use Rattle.file_pages.specs.laws_contents.specs.PageLaws.{FullBefore, bytes_at}
use Rattle.file_pages.specs.laws_record.proofs.Carried.{carried_once}
use Rattle.file_pages.specs.pack_laws.proofs.Placing.{page_of_place}
use Rattle.file_pages.specs.pack_laws.proofs.Sighted.{length-sights, shows_page, sights-get}
use Rattle.pack_model.specs.reading.Files.{file_bytes, place}
use Rattle.pack_model.specs.reading.Sights.{sights}
use Rattle.pack_model.specs.reading.Sights.Sight.{hidden}
use Rattle.pack_model.specs.states.Sentences.{EachOnce}
use Rattle.pack_model.specs.states.Whole.{Whole}
use Rattle.page_seeking.specs.Seeking.{IsEnd, page_number}

pub once_of_whole : (p : Pack) → Whole p → EachOnce (sights p)
once_of_whole p whole = λ f n i j a b. carried_once (sights p) f (whole.files f) n i j a b

-- ---- pages
-- the place of a data page, by its number
pub placed_at : (p : Pack) (f : Fid) (k at : ℕ) → EachOnce (sights p) → carried p at ≡ Some (page_number f (k + 1)) → place (sights p) f (suc k) ≡ Some at
placed_at p f k at once carries = ap (place (sights p) f) (sym (add-one k)) ∙ carried_once_is_in_place p (page_number f (k + 1)) at once carries

-- so many full pages have so many bytes
pub full_bytes : (p : Pack) (f : Fid) (k : ℕ) → FullBefore p f k → 512 * k ≤ length (file_bytes (sights p) f)
full_bytes p f zero before = omega arith
full_bytes p f (suc j) before =
    let last = before.each j (omega arith) in
    let slice = (page_is_a_slice p f j last.at (record { each = λ i less. before.each i (omega arith) }) last.sector).within in
    let full = last.full in
    omega (arith, slice, full)

-- so a page after full ones isn't past an end
pub not_beyond : (p : Pack) (f : Fid) (k n : ℕ) → EachOnce (sights p) → FullBefore p f k → IsEnd p f (k + 1) n → ⊥
not_beyond p f k n once before e =
    let last = e.last in
    let first = e.first in
    let below = e.below in
    let short = e.short in
    let above : suc (last - 1) ≡ last = omega (arith, first) in
    let sector : place (sights p) f (suc (last - 1)) ≡ Some e.at = ap (place (sights p) f) above ∙ carried_once_is_in_place p (page_number f last) e.at once e.carries in
    let full = before.each (last - 1) (omega (arith, first, below)) in
    let same : full.at ≡ e.at = one (sym full.sector ∙ sector) in
    let counts = (labels_count p f (last - 1) e.at sector).says e.sized in
    let whole_page = full.full in
    let size = ap (λ i. length (bytes_at p i)) same in
    omega (arith, short, counts, whole_page, size)
  where
    one : {a b : ℕ} → ◌≡◌ {A = Option ℕ} (Some a) (Some b) → a ≡ b
    one e = cc

-- ---- the sector of a data page
usable_first : (at end : ℕ) (right : Bool) → (nat_lt 0 at && (nat_lt at end && right)) ≡ true → 0 < at
usable_first at end right e = grind (arith, nat_tests)

usable_last : (at end : ℕ) (right : Bool) → (nat_lt 0 at && (nat_lt at end && right)) ≡ true → at < end
usable_last at end right e = grind (arith, nat_tests)

-- is a usable one
pub placed_usable : (p : Pack) (f : Fid) (n at : ℕ) → place (sights p) f (suc n) ≡ Some at → (0 < at) × (at < pages_of p.shape)
placed_usable p f n at e =
    let h = page_of_place (sights p) f n at e in
    let long = length-sights p in
    let inside = h.within in
    let shows = shows_page p.shape at (sector_at p at) f n h.bytes (sym (sights-get p at hidden (omega arith)) ∙ h.shows hidden) in
    let right : Bool = word (sector_at p at).header 1 == real_of p.shape at in
    (usable_first at (pages_of p.shape) right shows.usable, usable_last at (pages_of p.shape) right shows.usable)
