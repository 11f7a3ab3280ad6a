-- What the cache lists after one call of `note`, and after two.
use Rattle.std.proofs.Common.{◌≡◌, ℕ, ◌+◌, ◌-◌, ◌^◌, ◌<◌, ◌==◌, ◌&&◌, Bool, true, false, not, min, List, ◌∷◌, Some, Result, Ok, Err, OnOk, OnErr, ◌⊎◌, inl, inr, refl, sym, ◌∙◌, ap, subst, arith}
use Rattle.std.specs.Prelude.{All, Contains}
use Rattle.std.proofs.lemmas.List.Elements.{All-take, All-filter, All-cons, All-contains_itself, All-contains}
use Rattle.std.proofs.lemmas.Bool.Decides.{nat_tests}
use Rattle.alto_words.specs.Fid.{is_fid}
use Rattle.disk_records.specs.declared.records.Page.{Page}
use Rattle.disk_records.specs.declared.shape.Shape.{Shape}
use Rattle.hint_cache.specs.declared.cache.Entry.{Entry}
use Rattle.hint_cache.specs.Caches.{Cached, address_in, is_page, noted, without}
use Rattle.hint_cache.proofs.Pages.{is_page-itself}
use Rattle.label_check.specs.declared.errors.PageInfo.{PageInfo}
use Rattle.page_seeking.specs.Seeking.{GoesOn, Links, Lists, Refused, page_after}
use Rattle.page_seeking.specs.Inside.{AreNoted, IsNoted, Notes}

-- ---- one note
each_noted : (page : Page) (at : ℕ) (entries : List Entry) → All (λ e. Contains entries e ⊎ (e ≡ record { page = page; at = at })) (noted page at entries)
each_noted page at entries =
    let front : Entry = record { page = page; at = at } in
    let P : Entry → Type 0 = λ e. Contains entries e ⊎ (e ≡ front) in
    All-take P 48 (front ∷ without page entries) (All-cons P front (without page entries) (inr refl) (All-filter (λ e. not (is_page e.page page)) P entries (λ k d within. inl (All-contains_itself entries k d within))))

pub note_made : {E : Type 0} {page : Page} {at : ℕ} {before now : Cached} (result : Result (Unit {0}) E) → before.refused < 2 ^ 64
    → OnOk result (now ≡ record before { entries = noted page at before.entries }) → OnErr result (now ≡ record before { refused = min (before.refused + 1) (2 ^ 64 - 1) }) → Notes page at before now
note_made {page = page} {at} {before} {now} (Ok x) small ok err =
    record {
      each = subst (λ (c : Cached). All (λ e. Contains before.entries e ⊎ (e ≡ record { page = page; at = at })) c.entries) (sym ok) (each_noted page at before.entries);
      here = inl (ap (λ (c : Cached). c.entries) ok);
      grows = let same = ap (λ (c : Cached). c.refused) ok in omega (arith, same);
    }
note_made {page = page} {at} {before} {now} (Err e) small ok err =
    let same : now.entries ≡ before.entries = ap (λ (c : Cached). c.entries) err in
    let more : now.refused ≡ min (before.refused + 1) (2 ^ 64 - 1) = ap (λ (c : Cached). c.refused) err in
    record {
      each = subst (λ (l : List Entry). All (λ e. Contains before.entries e ⊎ (e ≡ record { page = page; at = at })) l) (sym same) (λ k d within. inl (All-contains_itself before.entries k d within));
      here = inr (omega (arith, more));
      grows = omega (arith, more);
    }

-- ---- where a page is listed after notes
find_here : (page : Page) (at : ℕ) (entries : List Entry) → address_in (noted page at entries) page ≡ Some at
find_here page at entries = rw is_page-itself refl

-- after a note of another page it is listed still
find_second : (page other : Page) (at next : ℕ) (entries : List Entry) → is_page other page ≡ false → is_page page other ≡ false
    → address_in (noted other next (noted page at entries)) page ≡ Some at
find_second page other at next entries not_front kept = rw (kept, not_front, is_page-itself) refl

-- the page after one is another
number_differs : (n : ℕ) → (n == n + 1) ≡ false
number_differs n = grind (arith, nat_tests)

after_differs : (page : Page) → is_page page (page_after page) ≡ false
after_differs page = let no = number_differs page.number in and_false (is_fid page.fid page.fid) (page.number == page.number + 1) no
  where
    and_false : (a b : Bool) → b ≡ false → (a && b) ≡ false
    and_false true b e = e
    and_false false b e = refl

after_differs_too : (page : Page) → is_page (page_after page) page ≡ false
after_differs_too page = and_false (is_fid page.fid page.fid) (page.number + 1 == page.number) (let n = page.number in grind (arith, nat_tests))
  where
    and_false : (a b : Bool) → b ≡ false → (a && b) ≡ false
    and_false true b e = e
    and_false false b e = refl

-- ---- one page was noted, and none comes after it
pub listed_alone : {form : Shape} {page : Page} {at : ℕ} {info : PageInfo} {before now : Cached} → Notes page at before now → ((i : ℕ) → GoesOn page info.bytes → Links form info.next i → ⊥) → Lists form page at info before now
listed_alone {page = page} {at} {before = before} {now} one none =
    record {
      here = elim (one.here) [ inl is ↦ inl (ap (λ l. address_in l page) is ∙ find_here page at before.entries) | inr refused ↦ inr refused ];
      next = λ i goes links. absurd (none i goes links);
    }

pub noted_alone : {form : Shape} {page : Page} {at : ℕ} {info : PageInfo} {before now : Cached} → Notes page at before now → AreNoted form page at info before.entries now.entries
noted_alone one = λ k d within. elim (one.each k d within) [ inl old ↦ inl old | inr here ↦ inr (inl here) ]

-- ---- and then the page after it
pub listed_both : {form : Shape} {page : Page} {at next : ℕ} {info : PageInfo} {before mid now : Cached} → Notes page at before mid → Notes (page_after page) next mid now
    → ((i : ℕ) → GoesOn page info.bytes → Links form info.next i → next ≡ i) → Lists form page at info before now
listed_both {page = page} {at} {next} {before = before} {mid} {now} one two same =
    record {
      here = first one.here two.here;
      next = λ i goes links. second i (same i goes links) two.here;
    }
  where
    later : Refused mid now → Refused before now
    later rose = let grows = one.grows in omega (arith, rose, grows)

    sooner : Refused before mid → Refused before now
    sooner rose = let grows = two.grows in omega (arith, rose, grows)

    first : (mid.entries ≡ noted page at before.entries) ⊎ Refused before mid → (now.entries ≡ noted (page_after page) next mid.entries) ⊎ Refused mid now → (address_in now.entries page ≡ Some at) ⊎ Refused before now
    first (inl a) (inl b) = inl (ap (λ l. address_in l page) b ∙ ap (λ l. address_in (noted (page_after page) next l) page) a ∙ find_second page (page_after page) at next before.entries (after_differs_too page) (after_differs page))
    first (inl a) (inr rose) = inr (later rose)
    first (inr rose) b = inr (sooner rose)

    second : (i : ℕ) → next ≡ i → (now.entries ≡ noted (page_after page) next mid.entries) ⊎ Refused mid now → (address_in now.entries (page_after page) ≡ Some i) ⊎ Refused before now
    second i is (inl b) = inl (ap (λ l. address_in l (page_after page)) b ∙ find_here (page_after page) next mid.entries ∙ ap Some is)
    second i is (inr rose) = inr (later rose)

pub noted_both : {form : Shape} {page : Page} {at next : ℕ} {info : PageInfo} {before mid now : Cached} → Notes page at before mid → Notes (page_after page) next mid now → GoesOn page info.bytes → Links form info.next next
    → AreNoted form page at info before.entries now.entries
noted_both {form} {page} {at} {next} {info} {before} {mid} {now} one two goes links = λ k d within. each (two.each k d within)
  where
    old : {e : Entry} → Contains before.entries e ⊎ (e ≡ record { page = page; at = at }) → IsNoted form page at info before.entries e
    old (inl x) = inl x
    old (inr is) = inr (inl is)

    each : {e : Entry} → Contains mid.entries e ⊎ (e ≡ record { page = page_after page; at = next }) → IsNoted form page at info before.entries e
    each {e} (inl there) = old (All-contains (λ (x : Entry). Contains before.entries x ⊎ (x ≡ record { page = page; at = at })) mid.entries e one.each there)
    each {e} (inr is) = inr (inr (record { goes = goes; page_is = ap (λ (x : Entry). x.page) is; named = subst (λ n. Links form info.next n) (sym (ap (λ (x : Entry). x.at) is)) links }))
