-- With true links on a whole pack, what is noted of a page that was seen is right.
use Rattle.std.proofs.Common.{◌≡◌, ℕ, suc, ◌<◌, ◌==◌, ◌&&◌, nat_lt, Bool, true, List, get_or, Option, Some, None, ◌⊎◌, inl, inr, refl, sym, ◌∙◌, ap, subst, add-one, arith}
use Rattle.std.proofs.lemmas.Bool.Decides.{nat_tests}
use Rattle.std.proofs.lemmas.List.Elements.{All-contains}
use Rattle.alto_words.specs.declared.fid.Fid.{Fid}
use Rattle.disk_records.specs.declared.records.Page.{Page}
use Rattle.disk_records.specs.declared.shape.Shape.{Shape}
use Rattle.disk_records.specs.Addresses.{pages_of, real_of}
use Rattle.disk_records.specs.Packs.{Pack, carried, sector_at}
use Rattle.disk_records.specs.Words.{word}
use Rattle.disk_records.proofs.Reals.{at_of-back}
use Rattle.hint_cache.specs.declared.cache.Entry.{Entry}
use Rattle.label_check.specs.declared.errors.PageInfo.{PageInfo}
use Rattle.label_check.specs.Guarded.{info_of}
use Rattle.laws_lookup.specs.laws_operation.proofs.links.Laws.{next_link_names_the_page_after}
use Rattle.laws_lookup.specs.laws_record.proofs.Carried.{carried_place}
use Rattle.laws_lookup.specs.pack_laws.proofs.Placing.{page_of_place}
use Rattle.laws_lookup.specs.pack_laws.proofs.Sighted.{length-sights, shows_page, sights-get}
use Rattle.pack_model.specs.reading.Files.{place}
use Rattle.pack_model.specs.hints.Links.{LinksTrue, link_to}
use Rattle.pack_model.specs.reading.Sights.{sights}
use Rattle.pack_model.specs.reading.Sights.Sight.{hidden}
use Rattle.pack_model.specs.states.Whole.{Whole}
use Rattle.page_seeking.specs.Seeking.{Links}
use Rattle.page_seeking.specs.Inside.{AreNoted, HandyEntries, IsHandyEntry, IsNoted}

-- a sector has one real address
real_once : (shape : Shape) (i j : ℕ) → i < pages_of shape → j < pages_of shape → real_of shape i ≡ real_of shape j → i ≡ j
real_once shape i j a b e = sym (at_of-back shape i (real_of shape j) a e) ∙ at_of-back shape j (real_of shape j) b refl

usable_within : (shape : Shape) (at : ℕ) (right : Bool) → (nat_lt 0 at && (nat_lt at (pages_of shape) && right)) ≡ true → at < pages_of shape
usable_within shape at right e = grind (arith, nat_tests)

usable_above : (shape : Shape) (at : ℕ) (right : Bool) → (nat_lt 0 at && (nat_lt at (pages_of shape) && right)) ≡ true → 0 < at
usable_above shape at right e = grind (arith, nat_tests)

-- the place of a data page is a sector
pub placed_within : (p : Pack) (f : Fid) (n at : ℕ) → place (sights p) f (suc n) ≡ Some at → at < pages_of p.shape
placed_within p f n at e =
    let h = page_of_place (sights p) f n at e in
    let long = length-sights p in
    let inside = h.within in
    let shows = shows_page p.shape at (sector_at p at) f n h.bytes (sym (sights-get p at hidden (omega arith)) ∙ h.shows hidden) in
    usable_within p.shape at (word (sector_at p at).header 1 == real_of p.shape at) shows.usable

-- and never sector 0
pub placed_first : (p : Pack) (f : Fid) (n at : ℕ) → place (sights p) f (suc n) ≡ Some at → 0 < at
placed_first p f n at e =
    let h = page_of_place (sights p) f n at e in
    let long = length-sights p in
    let inside = h.within in
    let shows = shows_page p.shape at (sector_at p at) f n h.bytes (sym (sights-get p at hidden (omega arith)) ∙ h.shows hidden) in
    usable_above p.shape at (word (sector_at p at).header 1 == real_of p.shape at) shows.usable

-- the true link of a page names the place of the page after it, or that page has none
pub place_after : (p : Pack) (f : Fid) (n i j : ℕ) → Whole p → LinksTrue p → place (sights p) f n ≡ Some i → Links p.shape (word (sector_at p i).label 0) j → (place (sights p) f (suc n) ≡ Some j) ⊎ (place (sights p) f (suc n) ≡ None)
place_after p f n i j whole links at named = by (place (sights p) f (suc n)) refl
  where
    by : (r : Option ℕ) → place (sights p) f (suc n) ≡ r → (place (sights p) f (suc n) ≡ Some j) ⊎ (place (sights p) f (suc n) ≡ None)
    by None e = inr e
    by (Some k) e =
        let next = next_link_names_the_page_after p f n i whole links at in
        let real : real_of p.shape j ≡ real_of p.shape k = named.named ∙ next ∙ ap (link_to p.shape) e in
        let within = placed_within p f n k e in
        inl (e ∙ ap Some (sym (real_once p.shape j k named.last within real)))

-- handy entries stay handy where a page that was seen is noted: its sector is its place, and a true link names that of the page after it
pub handy_noted : (p : Pack) (page : Page) (at : ℕ) (info : PageInfo) (old new : List Entry) → Whole p → LinksTrue p → AreNoted p.shape page at info old new → carried p at ≡ Some page → info ≡ info_of (sector_at p at).label
    → (f : Fid) → HandyEntries p f old → HandyEntries p f new
handy_noted p page at info old new whole links noted carries tells f handy = λ k d within. each (get_or new k d) (noted k d within)
  where
    there : place (sights p) page.fid page.number ≡ Some at
    there = carried_place p whole at page carries

    each : (e : Entry) → IsNoted p.shape page at info old e → IsHandyEntry (sights p) f e
    each e (inl old_one) = All-contains (IsHandyEntry (sights p) f) old e handy old_one
    each e (inr (inl is)) = subst (IsHandyEntry (sights p) f) (sym is) (λ own. inl (subst (λ (g : Fid). place (sights p) g page.number ≡ Some at) own there))
    each e (inr (inr b)) = λ own.
        let fid : page.fid ≡ f = sym (ap (λ (x : Page). x.fid) b.page_is) ∙ own in
        let number : e.page.number ≡ suc page.number = ap (λ (x : Page). x.number) b.page_is ∙ add-one page.number in
        let link = subst (λ n. Links p.shape n e.at) (ap (λ (x : PageInfo). x.next) tells) b.named in
        let is : place (sights p) page.fid (suc page.number) ≡ place (sights p) f e.page.number = ap (λ (g : Fid). place (sights p) g (suc page.number)) fid ∙ ap (place (sights p) f) (sym number) in
        elim (place_after p page.fid page.number at e.at whole links there link) [ inl x ↦ inl (sym is ∙ x) | inr x ↦ inr (sym is ∙ x) ]
