-- What was noted just before is listed still after few notes more.
use Rattle.std.proofs.Common.{◌≡◌, ◌⊎◌, ℕ, suc, zero, ◌<◌, ◌≤◌, ◌==◌, ◌&&◌, Bool, true, false, not, cond, List, [], ◌∷◌, take, Option, Some, inl, inr, refl, sym, ◌∙◌, ap, arith}
use Rattle.std.specs.Prelude.{find}
use Rattle.std.specs.Option.{option_map}
use Rattle.std.proofs.lemmas.Bool.Decides.{nat_tests}
use Rattle.alto_words.specs.Fid.{is_fid}
use Rattle.disk_records.specs.declared.records.Page.{Page}
use Rattle.hint_cache.specs.declared.cache.Entry.{Entry}
use Rattle.hint_cache.specs.Caches.{Cached, address_in, is_page, noted, without}
use Rattle.hint_cache.proofs.Pages.{is_page-itself, same_page}
use Rattle.page_seeking.specs.Seeking.{Refused, page_after}
use Rattle.page_seeking.specs.Inside.{IsRecent, KeepsRecent, Notes}

-- pages of other numbers are others
and_false : (a b : Bool) → b ≡ false → (a && b) ≡ false
and_false true b e = e
and_false false b e = refl

pub lower_differs : (other page : Page) → other.number < page.number → is_page other page ≡ false
lower_differs other page less = and_false (is_fid other.fid page.fid) (other.number == page.number) (grind (arith, nat_tests))

pub higher_differs : (other page : Page) → other.number < page.number → is_page page other ≡ false
higher_differs other page less = and_false (is_fid page.fid other.fid) (page.number == other.number) (grind (arith, nat_tests))

-- ---- addresses among the first entries
module _ (other : Page) (i : ℕ) where
  -- of a list that goes on
  goes_on : (x : Entry) (xs ys : List Entry) → (address_in xs other ≡ Some i → address_in ys other ≡ Some i) → address_in (x ∷ xs) other ≡ Some i → address_in (x ∷ ys) other ≡ Some i
  goes_on x xs ys more h = by (is_page x.page other) (find (λ (e : Entry). is_page e.page other) xs) (find (λ (e : Entry). is_page e.page other) ys) more h
    where
      by : (b : Bool) (u v : Option Entry) → (option_map (λ (e : Entry). e.at) u ≡ Some i → option_map (λ (e : Entry). e.at) v ≡ Some i) → option_map (λ (e : Entry). e.at) (cond b (Some x) u) ≡ Some i → option_map (λ (e : Entry). e.at) (cond b (Some x) v) ≡ Some i
      by true u v more h = h
      by false u v more h = more h

  among_more : (n m : ℕ) (l : List Entry) → n ≤ m → address_in (take n l) other ≡ Some i → address_in (take m l) other ≡ Some i
  among_more zero m [] most h = absurd cc
  among_more zero m (x ∷ l) most h = absurd cc
  among_more (suc n) m [] most h = absurd cc
  among_more (suc n) zero (x ∷ l) most h = absurd (omega (arith, most))
  among_more (suc n) (suc m) (x ∷ l) most h = goes_on x (take n l) (take m l) (among_more n m l (omega (arith, most))) h

  pub among_all : (n : ℕ) (l : List Entry) → address_in (take n l) other ≡ Some i → address_in l other ≡ Some i
  among_all zero [] h = absurd cc
  among_all zero (x ∷ l) h = absurd cc
  among_all (suc n) [] h = absurd cc
  among_all (suc n) (x ∷ l) h = goes_on x (take n l) l (among_all n l) h

  among_cut : (n m : ℕ) (l : List Entry) → n ≤ m → address_in (take n l) other ≡ Some i → address_in (take n (take m l)) other ≡ Some i
  among_cut zero m [] most h = absurd cc
  among_cut zero m (x ∷ l) most h = absurd cc
  among_cut (suc n) m [] most h = absurd cc
  among_cut (suc n) zero (x ∷ l) most h = absurd (omega (arith, most))
  among_cut (suc n) (suc m) (x ∷ l) most h = goes_on x (take n l) (take n (take m l)) (among_cut n m l (omega (arith, most))) h

  -- without another page's entry
  among_without : (page : Page) (n : ℕ) (l : List Entry) → is_page other page ≡ false → address_in (take n l) other ≡ Some i → address_in (take n (without page l)) other ≡ Some i
  among_without page zero [] apart h = absurd cc
  among_without page zero (x ∷ l) apart h = absurd cc
  among_without page (suc n) [] apart h = absurd cc
  among_without page (suc n) (x ∷ l) apart h = by (λ k. among_without page n l apart k) (is_page x.page page) refl (is_page x.page other) refl h
    where
      by : (address_in (take n l) other ≡ Some i → address_in (take n (without page l)) other ≡ Some i) → (b : Bool) → is_page x.page page ≡ b → (c : Bool) → is_page x.page other ≡ c → option_map (λ (e : Entry). e.at) (cond c (Some x) (find (λ (e : Entry). is_page e.page other) (take n l))) ≡ Some i
          → address_in (take (suc n) (cond (not b) (x ∷ without page l) (without page l))) other ≡ Some i
      by rest true is true own h = let same = same_page x.page other own in let both : true ≡ false = sym is ∙ ap (λ q. is_page q page) same ∙ apart in absurd cc
      by rest true is false own h = among_more n (suc n) (without page l) (omega arith) (rest h)
      by rest false is true own h = rw own h
      by rest false is false own h = rw own (rest h)

  -- after a note of another page
  pub among_noted : (page : Page) (at n : ℕ) (l : List Entry) → is_page other page ≡ false → is_page page other ≡ false → suc n ≤ 48 → address_in (take n l) other ≡ Some i → address_in (take (suc n) (noted page at l)) other ≡ Some i
  among_noted page at n l apart turned few h = rw turned (among_cut n 47 (without page l) (omega (arith, few)) (among_without page n l apart h))

-- ---- a page that was noted
recent_here : (page : Page) (at : ℕ) (entries : List Entry) → address_in (take 2 (noted page at entries)) page ≡ Some at
recent_here page at entries = rw is_page-itself refl

recent_second : (page : Page) (at next : ℕ) (entries : List Entry) → address_in (take 2 (noted (page_after page) next (noted page at entries))) page ≡ Some at
recent_second page at next entries = rw (lower_differs page (page_after page) (omega arith), higher_differs page (page_after page) (omega arith), is_page-itself) refl

-- it is among the two entries that were used last
pub recent_alone : {page : Page} {at : ℕ} {before now : Cached} → Notes page at before now → IsRecent page at before now
recent_alone {page} {at} {before} {now} one = elim (one.here) [ inl is ↦ inl (ap (λ l. address_in (take 2 l) page) is ∙ recent_here page at before.entries) | inr refused ↦ inr refused ]

pub recent_both : {page : Page} {at next : ℕ} {before mid now : Cached} → Notes page at before mid → Notes (page_after page) next mid now → IsRecent page at before now
recent_both {page} {at} {next} {before} {mid} {now} one two = by one.here two.here
  where
    by : (mid.entries ≡ noted page at before.entries) ⊎ Refused before mid → (now.entries ≡ noted (page_after page) next mid.entries) ⊎ Refused mid now → IsRecent page at before now
    by (inl a) (inl b) = inl (ap (λ l. address_in (take 2 l) page) b ∙ ap (λ l. address_in (take 2 (noted (page_after page) next l)) page) a ∙ recent_second page at next before.entries)
    by (inl a) (inr rose) = let grows = one.grows in inr (omega (arith, rose, grows))
    by (inr rose) b = let grows = two.grows in inr (omega (arith, rose, grows))

-- ---- a page that was noted before
pub kept_alone : {page : Page} {at : ℕ} {before now : Cached} (other : Page) → other.number < page.number → Notes page at before now → KeepsRecent other before now
kept_alone {page} {at} {before} {now} other less one i h = elim (one.here) [
  | inl is ↦ inl (ap (λ l. address_in l other) is ∙ among_all other i 3 (noted page at before.entries) (among_noted other i page at 2 before.entries (lower_differs other page less) (higher_differs other page less) (omega arith) h))
  | inr refused ↦ inr refused
]

pub kept_both : {page : Page} {at next : ℕ} {before mid now : Cached} (other : Page) → other.number < page.number → Notes page at before mid → Notes (page_after page) next mid now → KeepsRecent other before now
kept_both {page} {at} {next} {before} {mid} {now} other less one two i h = by one.here two.here
  where
    first : address_in (take 3 (noted page at before.entries)) other ≡ Some i
    first = among_noted other i page at 2 before.entries (lower_differs other page less) (higher_differs other page less) (omega arith) h

    second : (l : List Entry) → address_in (take 3 l) other ≡ Some i → address_in (noted (page_after page) next l) other ≡ Some i
    second l h = among_all other i 4 (noted (page_after page) next l) (among_noted other i (page_after page) next 3 l (lower_differs other (page_after page) (omega (arith, less))) (higher_differs other (page_after page) (omega (arith, less))) (omega arith) h)

    by : (mid.entries ≡ noted page at before.entries) ⊎ Refused before mid → (now.entries ≡ noted (page_after page) next mid.entries) ⊎ Refused mid now → (address_in now.entries other ≡ Some i) ⊎ Refused before now
    by (inl a) (inl b) = inl (ap (λ l. address_in l other) b ∙ ap (λ l. address_in (noted (page_after page) next l) other) a ∙ second (noted page at before.entries) first)
    by (inl a) (inr rose) = let grows = one.grows in inr (omega (arith, rose, grows))
    by (inr rose) b = let grows = two.grows in inr (omega (arith, rose, grows))

-- without a call of `note`
pub kept_here : (page : Page) (c : Cached) → KeepsRecent page c c
kept_here page c i h = inl (among_all page i 2 c.entries h)

-- over a call that left the page among the last two
pub listed_before : (page : Page) (i : ℕ) (c d e : Cached) → c.refused ≤ d.refused → d.refused ≤ e.refused → IsRecent page i c d → KeepsRecent page d e → (address_in e.entries page ≡ Some i) ⊎ Refused c e
listed_before page i c d e less more (inl here) keeps = elim (keeps i here) [ inl still ↦ inl still | inr rose ↦ inr (omega (arith, less, rose)) ]
listed_before page i c d e less more (inr rose) keeps = inr (omega (arith, more, rose))
