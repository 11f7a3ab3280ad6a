-- Hints of all files stay handy over a growth, where the pages that came are noted.
use Rattle.std.proofs.Common.{Bool, List, Some, [], ap, arith, false, inl, inr, length, map, refl, subst, suc, sym, true, ℕ, ◌+◌, ◌∙◌, ◌∷◌, ◌≡◌, ◌≤◌, ◌⊎◌}
use Rattle.std.specs.Prelude.{All}
use Rattle.std.proofs.lemmas.List.Elements.{All-cons, All-contains, All-map, All-nil}
use Rattle.alto_words.specs.Fid.{is_fid}
use Rattle.alto_words.specs.declared.fid.Fid.{Fid}
use Rattle.disk_records.specs.Packs.{Pack, sector_at}
use Rattle.disk_records.specs.Words.{word}
use Rattle.disk_records.specs.declared.records.Page.{Page}
use Rattle.disk_records.specs.declared.records.Sector.{Sector}
use Rattle.hint_cache.specs.Caches.{Cached}
use Rattle.hint_cache.specs.declared.cache.Entry.{Entry}
use Rattle.laws_operation.specs.ByteLaws.{Bear}
use Rattle.page_seeking.specs.Seeking.{KeepsHandy, NamedNearEnd, as_listed, file_length}
use Rattle.laws_call.specs.pack_laws.proofs.Keys.{same_fid}
use Rattle.pack_model.specs.hints.Handy.{HandyCache, IsRightOrIdle, last_at_word, last_number_word, leader_word}
use Rattle.pack_model.specs.operations.Committing.{page_of_byte}
use Rattle.pack_model.specs.reading.Files.{place}
use Rattle.pack_model.specs.reading.Sights.{Sight, sights}
use Rattle.pack_model.specs.states.Whole.{Whole}
use Rattle.file_pages.proofs.GrownFile.{placed_low}
use Rattle.file_pages.specs.Calls.{StaysHandy}
use Rattle.file_pages.specs.Growing.{Grew, IsAmong, NotesPages, StoodApart}

abbrev pub IsHandyEntry : List Sight → Fid → Entry → Type 0
IsHandyEntry ss f e = e.page.fid ≡ f → IsRightOrIdle ss f e.page.number e.at

-- a handy cache, entry by entry
pub handy_entries : (ss : List Sight) (g : Fid) (entries : List Entry) → HandyCache ss g (map as_listed entries) → All (IsHandyEntry ss g) entries
handy_entries ss g [] h = All-nil (IsHandyEntry ss g)
handy_entries ss g (e ∷ entries) h = All-cons (IsHandyEntry ss g) e entries (h 0 (e.page, e.at) (omega arith)) (handy_entries ss g entries (λ k d lt. h (suc k) d (omega arith)))

pub handy_cache : (ss : List Sight) (g : Fid) (entries : List Entry) → All (IsHandyEntry ss g) entries → HandyCache ss g (map as_listed entries)
handy_cache ss g entries each = All-map IsRightPair as_listed entries each
  where
    IsRightPair : Page × ℕ → Type 0
    IsRightPair c = c.0.fid ≡ g → IsRightOrIdle ss g c.0.number c.1

-- an entry of a page that came names its sector
among_placed : (ss : List Sight) (f : Fid) (n : ℕ) (fresh : List ℕ) (e : Entry) → Bear ss f n fresh → IsAmong f n fresh e → (e.page.fid ≡ f) × (place ss f e.page.number ≡ Some e.at)
among_placed ss f n [] e bear among = absurd among
among_placed ss f n (at ∷ fresh) e bear (inl is) = (ap (λ (x : Entry). x.page.fid) is, ap (λ (x : Entry). place ss f x.page.number) is ∙ bear.0 ∙ ap (λ (x : Entry). Some x.at) (sym is))
among_placed ss f n (at ∷ fresh) e bear (inr among) = among_placed ss f (suc n) fresh e bear.1 among

module _ (p q : Pack) (f : Fid) (last : ℕ) (fresh : List ℕ) (x : Grew p q f last fresh) where
  -- an entry of a page that didn't come
  old_entry : (g : Fid) (e : Entry) (old : List Entry) → IsHandyEntry (sights p) g e → StoodApart f last (last + length fresh) old e → IsHandyEntry (sights q) g e
  old_entry g e old was stood own = by (is_fid g f) refl
    where
      n : ℕ
      n = e.page.number

      by : (b : Bool) → is_fid g f ≡ b → IsRightOrIdle (sights q) g e.page.number e.at
      by false other = let same : place (sights q) g e.page.number ≡ place (sights p) g e.page.number = x.others.places g e.page.number other in elim (was own) [ inl right ↦ inl (same ∙ right) | inr idle ↦ inr (same ∙ idle) ]
      by true is =
          let names : g ≡ f = same_fid g f is in
          subst (λ h. IsRightOrIdle (sights q) h e.page.number e.at) (sym names) (elim (stood.apart (own ∙ names)) [
            | inl low ↦ elim (subst (λ h. IsRightOrIdle (sights p) h e.page.number e.at) names (was own)) [ inl right ↦ inl (x.kept e.page.number e.at low right) | inr idle ↦ absurd (x.there e.page.number low idle) ]
            | inr high ↦ inr (x.none e.page.number high)
          ])

  -- each
  entry_stays : (g : Fid) (old : List Entry) → All (IsHandyEntry (sights p) g) old → (e : Entry) → IsAmong f (suc last) fresh e ⊎ StoodApart f last (last + length fresh) old e → IsHandyEntry (sights q) g e
  entry_stays g old was e (inl among) own =
      let here = among_placed (sights q) f (suc last) fresh e x.comes among in
      let names : f ≡ g = sym here.0 ∙ own in
      inl (subst (λ h. place (sights q) h e.page.number ≡ Some e.at) names here.1)
  entry_stays g old was e (inr stood) own = old_entry g e old (All-contains (IsHandyEntry (sights p) g) old e was stood.stood) stood own

  all_stay : (g : Fid) (old : List Entry) → All (IsHandyEntry (sights p) g) old → (now : List Entry) → All (λ e. IsAmong f (suc last) fresh e ⊎ StoodApart f last (last + length fresh) old e) now → All (IsHandyEntry (sights q) g) now
  all_stay g old was now each k d within = entry_stays g old was _ (each k d within)

  pub grown_handy : (old mid now : Cached) → KeepsHandy p old mid → old.refused ≤ mid.refused → NotesPages f last fresh mid now → StaysHandy p q old now
  grown_handy old mid now keeps grows (inr rose) whole links g h = inr (omega (arith, rose, grows))
  grown_handy old mid now keeps grows (inl each) whole links g h = inl (handy_cache (sights q) g now.entries (all_stay g mid.entries (handy_entries (sights p) g mid.entries (keeps whole links g h)) now.entries each))

-- ---- the page that the leader names
-- is named still, where it was, and so many pages more come after it
pub named_still : {p q : Pack} {f : Fid} {last more : ℕ} {fresh : List ℕ} → Whole p → Grew p q f last fresh → last ≡ page_of_byte (file_length p f) → NamedNearEnd p f more → NamedNearEnd q f (more + length fresh)
named_still {p} {q} {f} {last} {more} {fresh} whole x is named =
    let n = leader_word p named.leader_at last_number_word in
    let words : (sector_at q named.leader_at).value ≡ (sector_at p named.leader_at).value = ap (λ (s : Sector). s.value) (x.leads named.leader_at named.leader) in
    let number : leader_word q named.leader_at last_number_word ≡ n = ap (λ l. word l last_number_word) words in
    let at : leader_word q named.leader_at last_at_word ≡ leader_word p named.leader_at last_at_word = ap (λ l. word l last_at_word) words in
    let first = named.first in
    let low = placed_low p f n (leader_word p named.leader_at last_at_word) whole named.at in
    let near = named.near in
    let ends = x.ends in
    record {
      leader_at = named.leader_at;
      leader = x.kept 0 named.leader_at (omega arith) named.leader;
      first = omega (arith, first, number);
      at = ap (place (sights q) f) number ∙ x.kept n (leader_word p named.leader_at last_at_word) (omega (arith, low, is)) named.at ∙ ap (λ i. Some i) (sym at);
      near = omega (arith, near, ends, number, is);
    }
