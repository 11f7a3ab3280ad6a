-- Pages that came are noted, one after another.
use Rattle.std.proofs.Common.{Bool, List, [], ap, arith, cond, false, get_or, inl, inr, length, refl, subst, suc, sym, true, ℕ, ◌+◌, ◌<◌, ◌∙◌, ◌∷◌, ◌≡◌, ◌≤◌, ◌⊎◌}
use Rattle.std.specs.Prelude.{All, not}
use Rattle.std.proofs.lemmas.List.Elements.{All-cons, All-contains_itself, All-head, All-nil, All-tail, All-take}
use Rattle.alto_words.specs.declared.fid.Fid.{Fid}
use Rattle.disk_records.specs.declared.records.Page.{Page}
use Rattle.hint_cache.proofs.Pages.{is_page-itself}
use Rattle.hint_cache.specs.Caches.{Cached, is_page, noted, without}
use Rattle.hint_cache.specs.declared.cache.Entry.{Entry}
use Rattle.page_seeking.specs.Seeking.{Refused, page_number}
use Rattle.file_pages.specs.Growing.{IsAmong, NotesOne, NotesPages, StoodApart}

-- Pages up to `before` of those in these sectors were noted, and the others are left.
pub record NotedSoFar (f : Fid) (last : ℕ) (fresh : List ℕ) (before : ℕ) (rest : List ℕ) (old now : List Entry) : Type 0 where
  pub each : All (λ e. IsAmong f (suc last) fresh e ⊎ StoodApart f last before old e) now
  pub others : (e : Entry) → IsAmong f (suc before) rest e → IsAmong f (suc last) fresh e

pub none_noted : (f : Fid) (last : ℕ) (fresh : List ℕ) (old : List Entry) → NotedSoFar f last fresh last fresh old old
none_noted f last fresh old = record {
  each = λ k d within. inr (record { stood = All-contains_itself old k d within; apart = λ own. by (get_or old k d).page.number });
  others = λ e among. among;
}
  where
    by : (n : ℕ) → (n ≤ last) ⊎ (last < n)
    by n = grind arith

-- the entries of other pages
without_all : (page : Page) (P Q : Entry → Type 0) (entries : List Entry) → All P entries → ((e : Entry) → P e → is_page e.page page ≡ false → Q e) → All Q (without page entries)
without_all page P Q [] h f = All-nil Q
without_all page P Q (e ∷ entries) h f = by (without_all page P Q entries (All-tail P e entries h) f) (is_page e.page page) refl
  where
    by : All Q (without page entries) → (b : Bool) → is_page e.page page ≡ b → All Q (without page (e ∷ entries))
    by rest true is = subst (λ b. All Q (cond (not b) (e ∷ without page entries) (without page entries))) (sym is) rest
    by rest false is = subst (λ b. All Q (cond (not b) (e ∷ without page entries) (without page entries))) (sym is) (All-cons Q e (without page entries) (f e (All-head P e entries h) is) rest)

-- what holds of the new entry and of each old one of another page
pub noted_each : (page : Page) (at : ℕ) (P Q : Entry → Type 0) (entries : List Entry) → Q (record { page = page; at = at }) → All P entries → ((e : Entry) → P e → is_page e.page page ≡ false → Q e) → All Q (noted page at entries)
noted_each page at P Q entries front each f =
    let first : Entry = record { page = page; at = at } in
    All-take Q 48 (first ∷ without page entries) (All-cons Q first (without page entries) front (without_all page P Q entries each f))

-- another page of the file has another number
pub other_number : (page : Page) (f : Fid) (n : ℕ) → is_page page (page_number f n) ≡ false → page.fid ≡ f → page.number ≡ n → ⊥
other_number page f n other own number =
    let same : page ≡ page_number f n = (λ i. record { fid = own i; number = number i }) in
    let both : true ≡ false = sym (is_page-itself (page_number f n)) ∙ ap (λ (p : Page). is_page p (page_number f n)) (sym same) ∙ other in
    absurd cc

module _ (f : Fid) (last : ℕ) (fresh : List ℕ) (before at : ℕ) (later : List ℕ) (old : List Entry) (a b : Cached) where
  pub page_noted : NotedSoFar f last fresh before (at ∷ later) old a.entries → b.entries ≡ noted (page_number f (suc before)) at a.entries → NotedSoFar f last fresh (suc before) later old b.entries
  page_noted x is = record { each = subst (All Q) (sym is) all; others = λ e among. x.others e (inr among) }
    where
      front : Entry
      front = record { page = page_number f (suc before); at = at }

      P : Entry → Type 0
      P e = IsAmong f (suc last) fresh e ⊎ StoodApart f last before old e

      Q : Entry → Type 0
      Q e = IsAmong f (suc last) fresh e ⊎ StoodApart f last (suc before) old e

      keep : (e : Entry) → IsAmong f (suc last) fresh e ⊎ StoodApart f last before old e → is_page e.page (page_number f (suc before)) ≡ false → IsAmong f (suc last) fresh e ⊎ StoodApart f last (suc before) old e
      keep e (inl among) other = inl among
      keep e (inr stood) other = inr (record { stood = stood.stood; apart = λ own. past own (stood.apart own) })
        where
          past : e.page.fid ≡ f → (e.page.number ≤ last) ⊎ (before < e.page.number) → (e.page.number ≤ last) ⊎ (suc before < e.page.number)
          past own (inl low) = inl low
          past own (inr high) = inr (let not_next = other_number e.page f (suc before) other own in omega (arith, high, not_next))

      all : All Q (noted (page_number f (suc before)) at a.entries)
      all = noted_each (page_number f (suc before)) at P Q a.entries (inl (x.others front (inl refl))) x.each keep

-- one more, unless a note was refused
pub noted_on : (f : Fid) (last : ℕ) (fresh : List ℕ) (before at : ℕ) (later : List ℕ) (old a b : Cached) → old.refused ≤ a.refused → NotedSoFar f last fresh before (at ∷ later) old.entries a.entries ⊎ Refused old a → NotesOne (page_number f (suc before)) at a b
    → NotedSoFar f last fresh (suc before) later old.entries b.entries ⊎ Refused old b
noted_on f last fresh before at later old a b grows (inl x) one = by one.entries
  where
    by : (b.entries ≡ noted (page_number f (suc before)) at a.entries) ⊎ Refused a b → NotedSoFar f last fresh (suc before) later old.entries b.entries ⊎ Refused old b
    by (inl is) = inl (page_noted f last fresh before at later old.entries a b x is)
    by (inr rose) = inr (omega (arith, rose, grows))
noted_on f last fresh before at later old a b grows (inr rose) one = inr (let more = one.grows in omega (arith, rose, more))

-- all of them
pub noted_all : (f : Fid) (last : ℕ) (fresh : List ℕ) (before : ℕ) (rest : List ℕ) (old now : Cached) → before ≡ last + length fresh → NotedSoFar f last fresh before rest old.entries now.entries ⊎ Refused old now → NotesPages f last fresh old now
noted_all f last fresh before rest old now is (inl x) = inl (subst (λ n. All (λ e. IsAmong f (suc last) fresh e ⊎ StoodApart f last n old.entries e) now.entries) is x.each)
noted_all f last fresh before rest old now is (inr rose) = inr rose
