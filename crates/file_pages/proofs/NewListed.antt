-- Pages that came are listed, and which address is answered that wasn't theirs.
use Rattle.std.proofs.Common.{Bool, List, Option, Some, [], ap, arith, drop, false, get_or, inl, inr, length, nat_lt, refl, suc, sym, take, true, zero, ℕ, ◌+◌, ◌-◌, ◌<◌, ◌∙◌, ◌∷◌, ◌≡◌, ◌≤◌, ◌⊎◌}
use Rattle.std.proofs.lemmas.Bool.Decides.{nat_tests}
use Rattle.alto_words.specs.declared.fid.Fid.{Fid}
use Rattle.disk_records.specs.declared.records.Page.{Page}
use Rattle.disk_records.specs.declared.records.Place.{Place}
use Rattle.disk_records.specs.declared.records.Place.TheVariants.{Held}
use Rattle.hint_cache.proofs.Pages.{is_page-itself}
use Rattle.hint_cache.specs.Caches.{Cached, address_in, noted}
use Rattle.hint_cache.specs.declared.cache.Entry.{Entry}
use Rattle.page_seeking.proofs.Recent.{among_all, among_noted, higher_differs, lower_differs}
use Rattle.page_seeking.specs.Seeking.{Refused, page_number}
use Rattle.page_seeking.specs.declared.ends.LastPage.{LastPage}
use Rattle.page_seeking.specs.declared.refs.FileRef.{FileRef}
use Rattle.file_pages.specs.Calls.{WasHeld}
use Rattle.file_pages.specs.Growing.{IsHintOfGrowth, ListsFresh, NotesOne, WasGivenToGrow}

-- The first k of the pages that come are listed among as many entries, as far as a cache goes.
abbrev pub ListsSome : Fid → ℕ → List ℕ → ℕ → List Entry → Type 0
ListsSome f last fresh k entries = (i : ℕ) → i < k → k ≤ i + 48 → address_in (take (k - i) entries) (page_number f (last + 1 + i)) ≡ Some (get_or fresh i 0)

first_listed : (page : Page) (at : ℕ) (entries : List Entry) → address_in (take 1 (noted page at entries)) page ≡ Some at
first_listed page at entries = rw is_page-itself refl

-- one more
pub some_more : (f : Fid) (last : ℕ) (fresh : List ℕ) (k at : ℕ) (a b : List Entry) → b ≡ noted (page_number f (last + 1 + k)) at a → at ≡ get_or fresh k 0 → ListsSome f last fresh k a → ListsSome f last fresh (k + 1) b
some_more f last fresh k at a b is here some i less most = by (nat_lt i k) refl
  where
    by : (t : Bool) → nat_lt i k ≡ t → address_in (take (k + 1 - i) b) (page_number f (last + 1 + i)) ≡ Some (get_or fresh i 0)
    by true e =
        let lower : i < k = grind (arith, nat_tests) in
        let below : last + 1 + i < last + 1 + k = omega (arith, lower) in
        let many : k + 1 - i ≡ suc (k - i) = omega (arith, lower) in
        let few : suc (k - i) ≤ 48 = omega (arith, lower, most) in
        let this = page_number f (last + 1 + i) in
        let next = page_number f (last + 1 + k) in
        let still = among_noted this (get_or fresh i 0) next at (k - i) a (lower_differs this next below) (higher_differs this next below) few (some i lower (omega (arith, most))) in
        ap (λ m. address_in (take m b) (page_number f (last + 1 + i))) many ∙ ap (λ l. address_in (take (suc (k - i)) l) (page_number f (last + 1 + i))) is ∙ still
    by false e =
        let above : k ≤ i = grind (arith, nat_tests) in
        let same : i ≡ k = omega (arith, above, less) in
        let many : k + 1 - i ≡ 1 = omega (arith, same) in
        ap (λ m. address_in (take m b) (page_number f (last + 1 + i))) many ∙ ap (λ l. address_in (take 1 l) (page_number f (last + 1 + i))) is ∙ ap (λ n. address_in (take 1 (noted (page_number f (last + 1 + k)) at a)) (page_number f (last + 1 + n))) same
        ∙ first_listed (page_number f (last + 1 + k)) at a ∙ ap Some here ∙ ap (λ n. Some (get_or fresh n 0)) (sym same)

-- what is left of a list, by its number
pub next_left : (k : ℕ) (fresh : List ℕ) (at : ℕ) (later : List ℕ) → drop k fresh ≡ at ∷ later → (at ≡ get_or fresh k 0) × (drop (k + 1) fresh ≡ later)
next_left k [] at later e = absurd (none k e)
  where
    none : (k : ℕ) → drop k [] ≡ at ∷ later → ⊥
    none zero e = cc
    none (suc k) e = cc
next_left zero (x ∷ fresh) at later e = (cc, cc)
next_left (suc k) (x ∷ fresh) at later e =
    let rest = next_left k fresh at later e in
    let one : suc k + 1 ≡ suc (k + 1) = omega arith in
    (rest.0, ap (λ n. drop n (x ∷ fresh)) one ∙ rest.1)

-- one more is noted, unless a note was refused
pub some_on : (f : Fid) (last : ℕ) (fresh : List ℕ) (k at : ℕ) (later : List ℕ) (page : Page) (old a b : Cached) → old.refused ≤ a.refused → page ≡ page_number f (last + 1 + k) → drop k fresh ≡ at ∷ later → NotesOne page at a b → ListsSome f last fresh k a.entries ⊎ Refused old a
    → ListsSome f last fresh (k + 1) b.entries ⊎ Refused old b
some_on f last fresh k at later page old a b grows is left one (inl some) = elim (one.entries) [
  | inl wrote ↦ inl (some_more f last fresh k at a.entries b.entries (wrote ∙ ap (λ (p : Page). noted p at a.entries) is) (next_left k fresh at later left).0 some)
  | inr rose ↦ inr (omega (arith, rose, grows))
]
some_on f last fresh k at later page old a b grows is left one (inr rose) = inr (let more = one.grows in omega (arith, rose, more))

-- all of them are
pub all_listed_then : (f : Fid) (last : ℕ) (fresh : List ℕ) (old now : Cached) → ListsSome f last fresh (length fresh) now.entries ⊎ Refused old now → ListsFresh f last fresh old now
all_listed_then f last fresh old now (inl some) = inl (λ i less most. among_all (page_number f (last + 1 + i)) (get_or fresh i 0) (length fresh - i) now.entries (some i less most))
all_listed_then f last fresh old now (inr rose) = inr rose

-- over a call before
pub fresh_since : (f : Fid) (last : ℕ) (fresh : List ℕ) (c d e : Cached) → c.refused ≤ d.refused → ListsFresh f last fresh d e → ListsFresh f last fresh c e
fresh_since f last fresh c d e grows (inl listed) = inl listed
fresh_since f last fresh c d e grows (inr rose) = inr (omega (arith, grows, rose))

-- ---- which address is answered
pub given_or_last : (file : FileRef) (fresh : List ℕ) (last : LastPage) (old new : Cached) → 1 ≤ last.number → (address_in new.entries (page_number file.fid last.number) ≡ Some last.at) ⊎ Refused old new → (place : Place) (at : ℕ) (wanted : Page) (found : Option (List ℕ))
    → WasGivenToGrow file.fid fresh place at wanted found ⊎ WasHeld last.at (page_number file.fid last.number) place at wanted found → IsHintOfGrowth file fresh old new place at wanted found
given_or_last file fresh last old new first listed place at wanted found (inl given) = inr (inl given)
given_or_last file fresh last old new first listed place at wanted found (inr x) =
    let number = ap (λ (p : Page). p.number) x.page_is in
    inr (inr (record {
      held = x.held ∙ ap Held (sym x.address);
      own = ap (λ (p : Page). p.fid) x.page_is;
      data_page = omega (arith, first, number);
      listed = elim listed [ inl is ↦ inl (ap (λ (p : Page). address_in new.entries p) x.page_is ∙ is ∙ ap Some (sym x.address)) | inr rose ↦ inr rose ];
    }))
