-- The links of pages in use, by the places of a file's pages.
use Rattle.std.proofs.Common.{Bool, List, None, Option, Some, ap, arith, cond, false, get_or, length, refl, suc, sym, true, zero, ℕ, ◌∙◌, ◌≡◌}
use Rattle.std.specs.Prelude.{nat_lt}
use Rattle.laws_contents.specs.alto_words.specs.declared.fid.Fid.{Fid}
use Rattle.laws_contents.specs.disk_records.specs.Packs.{Pack, sector_at}
use Rattle.laws_contents.specs.disk_records.specs.Words.{word}
use Rattle.laws_contents.specs.disk_records.specs.declared.shape.Shape.{Shape}
use Rattle.laws_contents.specs.pack_model.specs.reading.Files.{carries_page, place}
use Rattle.laws_contents.specs.pack_model.specs.states.InUse.{counts, in_use, is_place}
use Rattle.laws_contents.specs.pack_model.specs.hints.Links.{HasLinks, PageLinks, link_to, next_link, no_link, previous_link}
use Rattle.laws_contents.specs.pack_model.specs.reading.Sights.{Sight, sights}
use Rattle.laws_contents.specs.pack_model.specs.reading.Sights.Sight.{free, hidden, holds, leads, stray}
use Rattle.laws_contents.specs.pack_model.specs.states.Whole.{Whole}
use Rattle.laws_contents.specs.pack_laws.proofs.Keys.{is_fid-itself}
use Rattle.laws_contents.specs.pack_laws.proofs.Placing.{carries-holds, leader_of_place, page_of_place}
use Rattle.laws_contents.specs.laws_record.proofs.Heads.{and_right}
use Rattle.laws_contents.specs.laws_record.proofs.AllSectors.{carried_used}
use Rattle.laws_contents.specs.laws_record.proofs.Carried.{place_by}
use Rattle.laws_operation.proofs.inside.links.Ending.{none_later}

-- ---- links by places
-- the previous link of the page with this number in its label
abbrev pub link_before : Shape → List Sight → Fid → ℕ → ℕ
link_before shape ss f zero = no_link
link_before shape ss f (suc n) = link_to shape (place ss f n)

-- sector i names the places of the pages beside page n
pub record Linked (p : Pack) (f : Fid) (n i : ℕ) : Type 0 where
  pub next : word (sector_at p i).label 0 ≡ link_to p.shape (place (sights p) f (suc n))
  pub previous : word (sector_at p i).label 1 ≡ link_before p.shape (sights p) f n

-- so do all sectors that are places of a file's pages
abbrev pub FileLinks : Pack → Fid → Type 0
FileLinks p f = (n i : ℕ) → place (sights p) f n ≡ Some i → Linked p f n i

-- ---- between both forms
-- the link after a page, also where the page isn't full
next_either : (p : Pack) → Whole p → (f : Fid) (n i : ℕ) (b : List ℕ) → get_or (sights p) i hidden ≡ holds f n b → next_link p.shape (sights p) (holds f n b) ≡ link_to p.shape (place (sights p) f (suc (suc n)))
next_either p w f n i b is = by (nat_lt (length b) 512) (place (sights p) f (suc (suc n))) refl refl
  where
    by : (t : Bool) (r : Option ℕ) → nat_lt (length b) 512 ≡ t → place (sights p) f (suc (suc n)) ≡ r → cond t no_link (link_to p.shape r) ≡ link_to p.shape r
    by false r short there = refl
    by true None short there = refl
    by true (Some j) short there = absurd (none_later (sights p) f n i b (w.files f) is short (suc n) j (omega arith) there)

-- links of pages in use are those of each file
pub file_links : (p : Pack) → Whole p → PageLinks p → (f : Fid) → FileLinks p f
file_links p w links f zero i e =
    let h = leader_of_place (sights p) f i e in
    let s : Sight = leads f h.readable h.lead in
    let is : get_or (sights p) i hidden ≡ s = h.shows hidden in
    let used : in_use p.shape (sights p) (i, s) ≡ true = carried_used p w f 0 i (w.files f) (ap (carries_page f 0) is ∙ is_fid-itself f) in
    let x = links i (ap (λ s. in_use p.shape (sights p) (i, s)) is ∙ used) in
    record { next = x.next ∙ ap (next_link p.shape (sights p)) is; previous = x.previous ∙ ap (previous_link p.shape (sights p)) is }
file_links p w links f (suc n) i e =
    let h = page_of_place (sights p) f n i e in
    let s : Sight = holds f n h.bytes in
    let is : get_or (sights p) i hidden ≡ s = h.shows hidden in
    let used : in_use p.shape (sights p) (i, s) ≡ true = carried_used p w f (suc n) i (w.files f) (ap (carries_page f (suc n)) is ∙ carries-holds f n h.bytes) in
    let x = links i (ap (λ s. in_use p.shape (sights p) (i, s)) is ∙ used) in
    record { next = x.next ∙ ap (next_link p.shape (sights p)) is ∙ next_either p w f n i h.bytes is; previous = x.previous ∙ ap (previous_link p.shape (sights p)) is }

-- and the other way
pub page_links : (p : Pack) → Whole p → ((f : Fid) → FileLinks p f) → PageLinks p
page_links p w links i used = by (get_or (sights p) i hidden) refl used
  where
    by : (s : Sight) → get_or (sights p) i hidden ≡ s → in_use p.shape (sights p) (i, s) ≡ true → HasLinks p i
    by hidden is used = absurd cc
    by free is used = absurd cc
    by stray is used = absurd cc
    by (leads f r l) is used =
        let x = links f 0 i (place_by i (place (sights p) f 0) (and_right (counts p.shape (sights p) f 0) (is_place i (place (sights p) f 0)) used)) in
        record { next = x.next ∙ ap (next_link p.shape (sights p)) (sym is); previous = x.previous ∙ ap (previous_link p.shape (sights p)) (sym is) }
    by (holds f n b) is used =
        let x = links f (suc n) i (place_by i (place (sights p) f (suc n)) (and_right (counts p.shape (sights p) f (suc n)) (is_place i (place (sights p) f (suc n))) used)) in
        record { next = x.next ∙ sym (next_either p w f n i b is) ∙ ap (next_link p.shape (sights p)) (sym is); previous = x.previous ∙ ap (previous_link p.shape (sights p)) (sym is) }
