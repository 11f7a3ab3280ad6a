-- Which pages count, which sectors are in use by them, and how far the pages of a file go.
use Rattle.std.proofs.Common.{◌/◌, ◌<◌, ◌∙◌, ◌≡◌, ◌≤◌, Bool, List, None, Option, Some, ap, arith, eq-eqb, false, get_or, inl, inr, leb-true, length, nat_le, refl, subst, suc, sym, true, zero, ℕ}
use Rattle.std.proofs.lemmas.Bool.{cases_lt}
use Rattle.std.specs.Option.{is_some, option_map}
use Rattle.std.specs.Prelude.{◌&&◌, ◌↔◌, ◌⊎◌}
use Rattle.laws_room.specs.alto_words.specs.declared.fid.Fid.{Fid}
use Rattle.laws_room.specs.alto_words.specs.Fid.{disk_descriptor, is_fid}
use Rattle.laws_room.specs.disk_records.specs.Packs.{Pack, carried, sector_at}
use Rattle.laws_room.specs.disk_records.specs.Labels.{tag}
use Rattle.laws_room.specs.disk_records.specs.declared.records.Page.{Page}
use Rattle.laws_room.specs.pack_model.specs.reading.Files.{carries_page, file_bytes, leader, lives, place}
use Rattle.laws_room.specs.pack_model.specs.reading.Leaders.{Leader}
use Rattle.laws_room.specs.pack_model.specs.reading.Sights.{Sight, page_sight, sights}
use Rattle.laws_room.specs.pack_model.specs.reading.Sights.Sight.{free, hidden, holds, leads, stray}
use Rattle.laws_room.specs.pack_model.specs.sessions.Descriptor.{data_pages}
use Rattle.laws_room.specs.pack_model.specs.states.InUse.{counts, in_use, is_good, is_place, is_within}
use Rattle.laws_room.specs.pack_model.specs.states.Sentences.{EachOnce, HasLastPage, IsUsed}
use Rattle.laws_room.specs.pack_laws.proofs.Carrying.{carried_shown}
use Rattle.laws_room.specs.pack_laws.proofs.Keys.{is_fid-itself, same_fid}
use Rattle.laws_room.specs.pack_laws.proofs.Placing.{carries-holds}
use Rattle.laws_room.specs.pack_laws.proofs.Sighted.{length-sights}
use Rattle.laws_room.specs.laws_record.proofs.Carried.{carries_within}
use Rattle.laws_room.specs.laws_record.proofs.Copying.{place_carried}
use Rattle.laws_room.specs.laws_record.proofs.Ends.{counts_none}
use Rattle.laws_room.specs.laws_record.proofs.Heads.{and_left, and_right}
use Rattle.laws_room.specs.laws_record.proofs.Reading.{get-found, read_file}
use Rattle.laws_room.specs.laws_record.proofs.Recording.{carried_sight}
use Rattle.laws_room.specs.laws_contents.proofs.ends.Laws.{each_file_has_its_end}
use Rattle.laws_room.specs.laws_contents.proofs.pages.Laws.{carried_once_is_in_place}
use Rattle.laws_mend.proofs.inside.Counted.{carried_in_use, counts_end}
use Rattle.laws_mend.proofs.inside.Filed.{lives_place}
use Rattle.laws_mend.proofs.inside.Seats.{few_seats}
use Rattle.laws_mend.specs.CountingLaws.{CountsByItsEnd, CountsByItsFormat, FullPagesAreFew, LastingFileHasItsPages, UsedByItsPage}
use Rattle.laws_mend.specs.Parts.{Lasting}

-- ---- pages that count
pub counts_by_its_end : CountsByItsEnd
counts_by_its_end p f n ended other = by (leader (sights p) f) refl
  where
    by : (r : Option Leader) → leader (sights p) f ≡ r → counts p.shape (sights p) f n ≡ (is_some (leader (sights p) f) && nat_le n (suc (length (file_bytes (sights p) f) / 512)))
    by None e = counts_none p.shape (sights p) f n e ∙ sym (ap (λ r. is_some r && nat_le n (suc (length (file_bytes (sights p) f) / 512))) e)
    by (Some l) e = counts_end p ended f (ap is_some e) other n ∙ sym (ap (λ r. is_some r && nat_le n (suc (length (file_bytes (sights p) f) / 512))) e)

pub counts_by_its_format : CountsByItsFormat
counts_by_its_format p n = ap (is_within p.shape disk_descriptor n) (get-found (sights p) disk_descriptor) ∙ by (leader (sights p) disk_descriptor)
  where
    by : (r : Option Leader) → is_within p.shape disk_descriptor n (option_map (read_file disk_descriptor (file_bytes (sights p) disk_descriptor)) r) ≡ (is_some r && nat_le n (data_pages p.shape))
    by None = refl
    by (Some l) = refl

-- ---- sectors in use
-- a page is good, and isn't free
page_good : (f : Fid) (n c : ℕ) (v : List ℕ) → is_good (page_sight f n c v) ≡ true
page_good f zero c v = refl
page_good f (suc n) c v = refl

page_not_free : (f : Fid) (n c : ℕ) (v : List ℕ) → page_sight f n c v ≡ free → ⊥
page_not_free f zero c v e = cc
page_not_free f (suc n) c v e = cc

-- where no page is carried twice, a sector that carries one is in use if and only if its page counts
used_by_sight : (p : Pack) (at : ℕ) (page : Page) → EachOnce (sights p) → carried p at ≡ Some page → IsUsed p.shape (sights p) at ↔ (counts p.shape (sights p) page.fid page.number ≡ true)
used_by_sight p at page once here = (there, back)
  where
    s : get_or (sights p) at hidden ≡ page_sight page.fid page.number (tag (sector_at p at).label).bytes (sector_at p at).value
    s = carried_sight p at page here

    there : IsUsed p.shape (sights p) at → counts p.shape (sights p) page.fid page.number ≡ true
    there used = elim (used (ap is_good s ∙ page_good page.fid page.number (tag (sector_at p at).label).bytes (sector_at p at).value)) [
      | inl is ↦ absurd (page_not_free page.fid page.number (tag (sector_at p at).label).bytes (sector_at p at).value (sym s ∙ is))
      | inr is ↦ and_left (counts p.shape (sights p) page.fid page.number) (is_place at (place (sights p) page.fid page.number)) (sym (carried_in_use p at page here) ∙ is)
    ]

    back : counts p.shape (sights p) page.fid page.number ≡ true → IsUsed p.shape (sights p) at
    back counted good = inr
        (carried_in_use p at page here
        ∙ (λ i. counted i && is_place at (carried_once_is_in_place p page at once here i))
        ∙ eq-eqb at at refl)

pub used_by_its_page : UsedByItsPage
used_by_its_page p at cleared = (λ used page here. (used_by_sight p at page cleared.once here).0 used, λ counted. by counted (carried p at) refl)
  where
    shown : carried p at ≡ None → (f : Fid) (n : ℕ) → carries_page f n (get_or (sights p) at hidden) ≡ true → ⊥
    shown bare f n has =
        let is : carried p at ≡ Some (record { fid = f; number = n }) = carried_shown p at (record { fid = f; number = n }) hidden (subst (λ l. at < l) (length-sights p) (carries_within (sights p) f n at has)) has in
        let c : Some (record { fid = f; number = n }) ≡ None = sym is ∙ bare in cc

    -- a sector without a page shows none
    none : carried p at ≡ None → (s : Sight) → get_or (sights p) at hidden ≡ s → is_good s ≡ true → (s ≡ free) ⊎ (in_use p.shape (sights p) (at, s) ≡ true)
    none bare hidden e good = absurd cc
    none bare free e good = inl refl
    none bare stray e good = absurd (cleared.no_stray at e)
    none bare (leads f r l) e good = absurd (shown bare f 0 (ap (carries_page f 0) e ∙ is_fid-itself f))
    none bare (holds f n bytes) e good = absurd (shown bare f (suc n) (ap (carries_page f (suc n)) e ∙ carries-holds f n bytes))

    by : ((page : Page) → carried p at ≡ Some page → counts p.shape (sights p) page.fid page.number ≡ true) → (r : Option Page) → carried p at ≡ r → IsUsed p.shape (sights p) at
    by counted None e = none e (get_or (sights p) at hidden) refl
    by counted (Some page) e = (used_by_sight p at page cleared.once e).1 (counted page e)

-- ---- how far the pages of a file go
-- a living file has its leader page, its full pages and its last page
all_there : (p : Pack) (f : Fid) (n : ℕ) → lives (sights p) f ≡ true → HasLastPage (sights p) f → n ≤ suc (length (file_bytes (sights p) f) / 512) → is_some (place (sights p) f n) ≡ true
all_there p f zero live last low = sym (lives_place (sights p) f) ∙ live
all_there p f (suc m) live last low = elim (cases_lt m (length (file_bytes (sights p) f) / 512)) [
  | inl less ↦ ap is_some ((each_file_has_its_end p f).before.each m less).sector
  | inr end ↦ (let z : m ≡ length (file_bytes (sights p) f) / 512 = omega arith in ap (λ k. is_some (place (sights p) f (suc k))) z ∙ last)
]

-- its pages count up to the last one, also those of DiskDescriptor
lasting_counts : (p : Pack) (f : Fid) (n : ℕ) → Lasting p → counts p.shape (sights p) f n ≡ (lives (sights p) f && nat_le n (suc (length (file_bytes (sights p) f) / 512)))
lasting_counts p f n l = by (is_fid f disk_descriptor) refl
  where
    by : (b : Bool) → is_fid f disk_descriptor ≡ b → counts p.shape (sights p) f n ≡ (lives (sights p) f && nat_le n (suc (length (file_bytes (sights p) f) / 512)))
    by false e = counts_by_its_end p f n l.rooted.used.ended e
    by true e =
        subst (λ g. counts p.shape (sights p) g n ≡ (lives (sights p) g && nat_le n (suc (length (file_bytes (sights p) g) / 512)))) (sym (same_fid f disk_descriptor e))
        (counts_by_its_format p n ∙ ap (λ b. lives (sights p) disk_descriptor && nat_le n (suc (b / 512))) (sym l.descriptor_size))

pub lasting_file_has_its_pages : LastingFileHasItsPages
lasting_file_has_its_pages p f n l = by (place (sights p) f n) (lives (sights p) f && nat_le n (suc (length (file_bytes (sights p) f) / 512))) refl refl
  where
    by : (r : Option ℕ) (b : Bool) → place (sights p) f n ≡ r → (lives (sights p) f && nat_le n (suc (length (file_bytes (sights p) f) / 512))) ≡ b → is_some (place (sights p) f n) ≡ b
    by None false e g = ap is_some e
    by None true e g =
        let live : lives (sights p) f ≡ true = and_left (lives (sights p) f) (nat_le n (suc (length (file_bytes (sights p) f) / 512))) g in
        let low : n ≤ suc (length (file_bytes (sights p) f) / 512) = leb-true n (suc (length (file_bytes (sights p) f) / 512)) (and_right (lives (sights p) f) (nat_le n (suc (length (file_bytes (sights p) f) / 512))) g) in
        all_there p f n live (l.last_pages f live) low
    by (Some at) b e g =
        let page : Page = record { fid = f; number = n } in
        let here : carried p at ≡ Some page = place_carried p page at e in
        ap is_some e ∙ sym ((used_by_sight p at page l.rooted.used.ended.cleared.once here).0 (l.rooted.used.used at)) ∙ lasting_counts p f n l ∙ g

pub full_pages_are_few : FullPagesAreFew
full_pages_are_few p f k full = few_seats p f k (λ j l. let x = full.each j l in (x.at, x.sector))
