-- Pages that a cache forgets.
use Rattle.std.proofs.Common.{Bool, List, None, Some, ◌⊎◌, ◌+◌, [], false, refl, subst, sym, true, ap, arith, nat_lt, ◌∙◌, ◌∷◌, ◌≡◌, ◌≢◌, ◌<◌, ◌≤◌, ℕ, suc, inl, inr}
use Rattle.std.proofs.lemmas.Bool.Decides.{nat_tests}
use Rattle.alto_words.specs.declared.fid.Fid.{Fid}
use Rattle.disk_records.specs.declared.records.Page.{Page}
use Rattle.disk_records.specs.Packs.{Pack}
use Rattle.disk_records.specs.declared.shape.Shape.{Shape}
use Rattle.hint_cache.proofs.Pages.{same_page}
use Rattle.hint_cache.specs.Caches.{Cached, IsHighestBelow, NoneListed, address_in, is_page, without}
use Rattle.hint_cache.specs.declared.cache.Entry.{Entry}
use Rattle.label_check.specs.declared.errors.PageInfo.{PageInfo}
use Rattle.page_seeking.specs.Seeking.{EndListed, EndsAtPage, IsLast, Lists, Refused, file_length, page_number}
use Rattle.page_seeking.specs.declared.ends.LastPage.{LastPage}
use Rattle.pack_model.specs.operations.Committing.{page_of_byte}
use Rattle.pack_model.specs.reading.Files.{place}
use Rattle.pack_model.specs.reading.Sights.{sights}
use Rattle.page_seeking.proofs.Seeking.{goes_not_end}

-- ---- one page
-- it isn't listed then
pub none_there : (page : Page) (entries : List Entry) → address_in (without page entries) page ≡ None
none_there page [] = refl
none_there page (x ∷ xs) = by (is_page x.page page) refl (none_there page xs)
  where
    by : (b : Bool) → is_page x.page page ≡ b → address_in (without page xs) page ≡ None → address_in (without page (x ∷ xs)) page ≡ None
    by true is rest = rw is rest
    by false is rest = rw (is, is) rest

-- each other page is listed as it was
pub same_elsewhere : (page other : Page) (entries : List Entry) → other ≢ page → address_in (without page entries) other ≡ address_in entries other
same_elsewhere page other [] apart = refl
same_elsewhere page other (x ∷ xs) apart = by (is_page x.page other) refl (is_page x.page page) refl (same_elsewhere page other xs apart)
  where
    by : (b : Bool) → is_page x.page other ≡ b → (d : Bool) → is_page x.page page ≡ d → address_in (without page xs) other ≡ address_in xs other → address_in (without page (x ∷ xs)) other ≡ address_in (x ∷ xs) other
    by true is true it rest = absurd (apart (sym (same_page x.page other is) ∙ same_page x.page page it))
    by true is false it rest = rw (it, is) refl
    by false is true it rest = rw (it, is) rest
    by false is false it rest = rw (it, is) rest

-- ---- the pages of a file from the highest down
-- a page with another number is another page
pub apart_by : (f : Fid) (n : ℕ) (page : Page) → n ≢ page.number → page_number f n ≢ page
apart_by f n page other same = other (ap (λ (p : Page). p.number) same)

-- none is listed between two numbers and between the second and a third
pub none_over : {entries : List Entry} {f : Fid} (a b c d : ℕ) → a ≤ d → NoneListed entries f a b → NoneListed entries f b c → NoneListed entries f d c
none_over {entries} {f} a b c d low one two = record { none = λ n from to. by n from to (nat_lt n b) refl }
  where
    by : (n : ℕ) → d ≤ n → n < c → (t : Bool) → nat_lt n b ≡ t → address_in entries (page_number f n) ≡ None
    by n from to true e = one.none n (omega (arith, low, from)) (grind (arith, nat_tests))
    by n from to false e = two.none n (grind (arith, nat_tests)) to

-- without the highest page none is listed from its number on
pub none_without : (entries : List Entry) (f : Fid) (above top : ℕ) (e : Entry) → IsHighestBelow entries f above e → NoneListed entries f above top → NoneListed (without e.page entries) f e.page.number top
none_without entries f above top e is none = record { none = λ n from to. by n from to (nat_lt e.page.number n) refl }
  where
    rest : NoneListed entries f (suc e.page.number) top
    rest = none_over (suc e.page.number) above top (suc e.page.number) (omega arith) is.highest none

    by : (n : ℕ) → e.page.number ≤ n → n < top → (t : Bool) → nat_lt e.page.number n ≡ t → address_in (without e.page entries) (page_number f n) ≡ None
    by n from to true after =
        let more : e.page.number < n = grind (arith, nat_tests) in
        same_elsewhere e.page (page_number f n) entries (apart_by f n e.page (λ same. omega (arith, same, more))) ∙ rest.none n (omega (arith, more)) to
    by n from to false after =
        let same : n ≡ e.page.number = grind (arith, nat_tests, from) in
        let file = is.file in
        let page : page_number f n ≡ e.page = λ i. record { fid = sym file i; number = same i } in
        ap (address_in (without e.page entries)) page ∙ none_there e.page entries

-- ---- what was listed of the last page
pub lists_forgotten : {form : Shape} {f : Fid} {n at : ℕ} {info : PageInfo} (c d e : Cached) → EndsAtPage n info.bytes → e.refused ≡ d.refused → address_in e.entries (page_number f n) ≡ address_in d.entries (page_number f n) → Lists form (page_number f n) at info c d → Lists form (page_number f n) at info c e
lists_forgotten c d e ends count same lists = record { here = elim (lists.here) [ inl is ↦ inl (same ∙ is) | inr rose ↦ inr (omega (arith, count, rose)) ]; next = λ i goes links. absurd (goes_not_end goes ends) }

-- it is the highest that is listed, where none after it is
pub end_listed : (p : Pack) (f : Fid) (n at : ℕ) (cache : Cached) → n ≡ page_of_byte (file_length p f) → n < 65535 → place (sights p) f n ≡ Some at → address_in cache.entries (page_number f n) ≡ Some at → NoneListed cache.entries f (suc n) 65535 → EndListed p f cache
end_listed p f n at cache number low placed listed none =
    record {
      at = at;
      placed = ap (place (sights p) f) (sym number) ∙ placed;
      highest = record {
        file = refl;
        below = omega (arith, low, number);
        listed = ap (λ k. address_in cache.entries (page_number f k)) (sym number) ∙ listed;
        highest = subst (λ k. NoneListed cache.entries f (suc k) 65535) number none;
      };
    }

pub highest_left : {p : Pack} {form : Shape} {f : Fid} {last : LastPage} (c d : Cached) → IsLast p f last → last.number < 65535 → Lists form (page_number f last.number) last.at last.info c d → NoneListed d.entries f (last.number + 1) 65535 → EndListed p f d ⊎ Refused c d
highest_left {p} {f = f} {last} c d is low lists none =
    elim (lists.here) [
      | inl here ↦ inl (end_listed p f last.number last.at d is.number low is.placed here (record { none = λ n from to. none.none n (omega (arith, from)) to }))
      | inr rose ↦ inr rose
    ]
