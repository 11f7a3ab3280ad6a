-- After a growth the last page is the highest that the cache lists, as before it.
use Rattle.std.proofs.Common.{Bool, List, None, Option, Some, [], ap, arith, cond, false, get_or, inl, inr, length, refl, suc, sym, true, zero, ℕ, ◌+◌, ◌<◌, ◌∙◌, ◌∷◌, ◌≡◌, ◌≤◌, ◌⊎◌}
use Rattle.std.specs.Option.{option_map}
use Rattle.std.specs.Prelude.{All, find}
use Rattle.std.proofs.lemmas.List.Elements.{All-cons, All-contains, All-nil}
use Rattle.alto_words.specs.declared.fid.Fid.{Fid}
use Rattle.disk_records.specs.Packs.{Pack}
use Rattle.disk_records.specs.declared.records.Page.{Page}
use Rattle.hint_cache.proofs.Pages.{is_page-itself}
use Rattle.hint_cache.specs.Caches.{Cached, NoneListed, address_in, is_page}
use Rattle.hint_cache.specs.declared.cache.Entry.{Entry}
use Rattle.laws_operation.specs.ByteLaws.{Bear}
use Rattle.page_seeking.proofs.Forgetting.{end_listed}
use Rattle.page_seeking.proofs.Recalling.{of_listed}
use Rattle.page_seeking.specs.Seeking.{EndListed, IsLast, Refused, file_length, page_number}
use Rattle.page_seeking.specs.declared.ends.LastPage.{LastPage}
use Rattle.pack_model.specs.operations.Committing.{page_of_byte}
use Rattle.pack_model.specs.reading.Files.{place}
use Rattle.pack_model.specs.reading.Sights.{Sight, sights}
use Rattle.file_pages.specs.Growing.{Grew, IsAmong, ListsFresh, NotesPages, StoodApart}

-- the place of one of the pages in a row
bear_at : (ss : List Sight) (f : Fid) (n : ℕ) (pages : List ℕ) (i : ℕ) → Bear ss f n pages → i < length pages → place ss f (n + i) ≡ Some (get_or pages i 0)
bear_at ss f n [] i bear less = absurd (omega (arith, less))
bear_at ss f n (at ∷ pages) zero bear less = let same : n + 0 ≡ n = omega arith in ap (place ss f) same ∙ bear.0
bear_at ss f n (at ∷ pages) (suc i) bear less = let same : n + suc i ≡ suc n + i = omega arith in ap (place ss f) same ∙ bear_at ss f (suc n) pages i bear.1 (omega (arith, less))

-- an entry of a page that came has its number among theirs
among_below : (f : Fid) (n : ℕ) (fresh : List ℕ) (e : Entry) → IsAmong f n fresh e → e.page.number < n + length fresh
among_below f n [] e among = absurd among
among_below f n (at ∷ fresh) e (inl is) = let number = ap (λ (x : Entry). x.page.number) is in omega (arith, number)
among_below f n (at ∷ fresh) e (inr among) = let rest = among_below f (suc n) fresh e among in omega (arith, rest)

-- a page that isn't listed has no entry
no_entry : (page : Page) (entries : List Entry) → address_in entries page ≡ None → All (λ e. is_page e.page page ≡ false) entries
no_entry page [] none = All-nil (λ (e : Entry). is_page e.page page ≡ false)
no_entry page (x ∷ xs) none = by (is_page x.page page) refl none (no_entry page xs)
  where
    by : (b : Bool) → is_page x.page page ≡ b → option_map (λ (e : Entry). e.at) (cond b (Some x) (find (λ (e : Entry). is_page e.page page) xs)) ≡ None → (address_in xs page ≡ None → All (λ (e : Entry). is_page e.page page ≡ false) xs) → All (λ (e : Entry). is_page e.page page ≡ false) (x ∷ xs)
    by true is e rest = absurd cc
    by false is e rest = All-cons (λ (e : Entry). is_page e.page page ≡ false) x xs is (rest e)

-- no page after those that came is listed
none_after : (f : Fid) (last : ℕ) (fresh : List ℕ) (old now : List Entry) → NoneListed old f (suc last) 65535 → All (λ e. IsAmong f (suc last) fresh e ⊎ StoodApart f last (last + length fresh) old e) now → NoneListed now f (suc (last + length fresh)) 65535
none_after f last fresh old now none each = record { none = λ n from to. by n from to (address_in now (page_number f n)) refl }
  where
    P : Entry → Type 0
    P e = IsAmong f (suc last) fresh e ⊎ StoodApart f last (last + length fresh) old e

    apart : (n i : ℕ) → suc (last + length fresh) ≤ n → n < 65535 → IsAmong f (suc last) fresh (record { page = page_number f n; at = i }) ⊎ StoodApart f last (last + length fresh) old (record { page = page_number f n; at = i }) → ⊥
    apart n i from to (inl among) = let below = among_below f (suc last) fresh (record { page = page_number f n; at = i }) among in omega (arith, below, from)
    apart n i from to (inr stood) =
        let here : Entry = record { page = page_number f n; at = i } in
        let other : is_page (page_number f n) (page_number f n) ≡ false = All-contains (λ (e : Entry). is_page e.page (page_number f n) ≡ false) old here (no_entry (page_number f n) old (none.none n (omega (arith, from)) to)) stood.stood in
        let both : true ≡ false = sym (is_page-itself (page_number f n)) ∙ other in
        absurd cc

    by : (n : ℕ) → suc (last + length fresh) ≤ n → n < 65535 → (o : Option ℕ) → address_in now (page_number f n) ≡ o → address_in now (page_number f n) ≡ None
    by n from to None e = e
    by n from to (Some i) e = absurd (apart n i from to (of_listed P (page_number f n) i now e each))

module _ (p q : Pack) (f : Fid) (last : LastPage) (old mid now : Cached) where
  pub grown_highest : (fresh : List ℕ) → Grew p q f last.number fresh → IsLast p f last → old.refused ≤ mid.refused → mid.refused ≤ now.refused → EndListed p f mid ⊎ Refused old mid → NotesPages f last.number fresh mid now → ListsFresh f last.number fresh mid now → (fresh ≡ [] → now ≡ mid)
      → page_of_byte (file_length q f) < 65535 → EndListed q f now ⊎ Refused old now
  grown_highest fresh grew is grows more (inr rose) notes listed same low = inr (omega (arith, rose, more))
  grown_highest fresh grew is grows more (inl end) (inr rose) listed same low = inr (omega (arith, rose, grows))
  grown_highest fresh grew is grows more (inl end) (inl each) (inr rose) same low = inr (omega (arith, rose, grows))
  grown_highest [] grew is grows more (inl end) (inl each) (inl listed) same low =
      let number = is.number in
      let ends = grew.ends in
      let still : page_of_byte (file_length p f) ≡ page_of_byte (file_length q f) = omega (arith, number, ends) in
      let entries = ap (λ (c : Cached). c.entries) (same refl) in
      inl (end_listed q f (page_of_byte (file_length p f)) end.at now still (omega (arith, low, still)) (grew.kept (page_of_byte (file_length p f)) end.at (omega (arith, number)) end.placed) (ap (λ es. address_in es (page_number f (page_of_byte (file_length p f)))) entries ∙ end.highest.listed)
      (record { none = λ n from to. ap (λ es. address_in es (page_number f n)) entries ∙ end.highest.highest.none n from to }))
  grown_highest (a ∷ later) grew is grows more (inl end) (inl each) (inl listed) same low =
      let fresh : List ℕ = a ∷ later in
      let number = is.number in
      let ends = grew.ends in
      let top = last.number + length fresh in
      let placed = bear_at (sights q) f (suc last.number) fresh (length later) grew.comes (omega arith) in
      let here = listed (length later) (omega arith) (omega arith) in
      let one : suc last.number + length later ≡ top = omega arith in
      let two : last.number + 1 + length later ≡ top = omega arith in
      let none : NoneListed mid.entries f (suc last.number) 65535 = record { none = λ n from to. end.highest.highest.none n (omega (arith, from, number)) to } in
      inl (end_listed q f top (get_or fresh (length later) 0) now (sym ends) (omega (arith, ends, low)) (ap (place (sights q) f) (sym one) ∙ placed) (ap (λ n. address_in now.entries (page_number f n)) (sym two) ∙ here) (none_after f last.number fresh mid.entries now.entries none each))
