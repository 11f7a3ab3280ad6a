-- Both pages of a new file are listed after a make, and hints of all files stay handy over it.
use Rattle.std.proofs.Common.{Bool, List, Some, ap, arith, false, inl, inr, refl, subst, suc, sym, true, zero, ℕ, ◌&&◌, ◌∙◌, ◌≡◌, ◌⊎◌}
use Rattle.std.specs.Prelude.{All}
use Rattle.alto_words.specs.Fid.{is_fid}
use Rattle.alto_words.specs.declared.fid.Fid.{Fid}
use Rattle.disk_records.specs.Packs.{Pack}
use Rattle.hint_cache.proofs.Pages.{is_page-itself}
use Rattle.hint_cache.specs.Caches.{Cached, address_in, is_page, noted}
use Rattle.hint_cache.specs.declared.cache.Entry.{Entry}
use Rattle.laws_lookup.specs.OtherLaws.{LeavesOthers}
use Rattle.laws_operation.specs.PlaceLaws.{HasTwoPages}
use Rattle.page_seeking.specs.Seeking.{Refused, page_number}
use Rattle.laws_call.specs.pack_laws.proofs.Keys.{same_fid}
use Rattle.pack_model.specs.hints.Handy.{IsRightOrIdle}
use Rattle.pack_model.specs.reading.Files.{place}
use Rattle.pack_model.specs.reading.Sights.{sights}
use Rattle.file_pages.proofs.GrownHandy.{IsHandyEntry, handy_cache, handy_entries}
use Rattle.file_pages.proofs.NewNotes.{noted_each, other_number}
use Rattle.file_pages.specs.Calls.{ListsTwoPages, StaysHandy}
use Rattle.file_pages.specs.Growing.{NotesOne, NotesTwo}

-- ---- both are noted
pub noted_two : (f : Fid) (leader_at page_at : ℕ) (old mid new : Cached) → NotesOne (page_number f 1) page_at old mid → NotesOne (page_number f 0) leader_at mid new → NotesTwo f leader_at page_at old new
noted_two f leader_at page_at old mid new one two = by one.entries two.entries
  where
    by : (mid.entries ≡ noted (page_number f 1) page_at old.entries) ⊎ Refused old mid → (new.entries ≡ noted (page_number f 0) leader_at mid.entries) ⊎ Refused mid new → NotesTwo f leader_at page_at old new
    by (inl first) (inl second) = inl (second ∙ ap (λ l. noted (page_number f 0) leader_at l) first)
    by (inl first) (inr rose) = inr (let grows = one.grows in omega (arith, rose, grows))
    by (inr rose) x = inr (let grows = two.grows in omega (arith, rose, grows))

-- ---- both are listed
another : (f : Fid) → is_page (page_number f 1) (page_number f 0) ≡ false
another f = by (is_fid f f)
  where
    by : (a : Bool) → (a && false) ≡ false
    by true = refl
    by false = refl

listed_first : (f : Fid) (leader_at page_at : ℕ) (entries : List Entry) → address_in (noted (page_number f 0) leader_at (noted (page_number f 1) page_at entries)) (page_number f 0) ≡ Some leader_at
listed_first f leader_at page_at entries = rw is_page-itself refl

listed_second : (f : Fid) (leader_at page_at : ℕ) (entries : List Entry) → address_in (noted (page_number f 0) leader_at (noted (page_number f 1) page_at entries)) (page_number f 1) ≡ Some page_at
listed_second f leader_at page_at entries = rw (another f, is_page-itself) refl

pub lists_two : (f : Fid) (leader_at page_at : ℕ) (old new : Cached) → NotesTwo f leader_at page_at old new → ListsTwoPages f leader_at page_at old new
lists_two f leader_at page_at old new (inl is) = inl (
  ap (λ l. address_in l (page_number f 0)) is ∙ listed_first f leader_at page_at old.entries,
  ap (λ l. address_in l (page_number f 1)) is ∙ listed_second f leader_at page_at old.entries,
)
lists_two f leader_at page_at old new (inr rose) = inr rose

-- ---- hints of all files
module _ (p q : Pack) (f : Fid) (leader_at page_at : ℕ) (two : HasTwoPages q f leader_at page_at) (others : LeavesOthers f p q) where
  -- an entry that stood there, of neither of the two pages
  old_entry : (g : Fid) (e : Entry) → IsHandyEntry (sights p) g e → is_page e.page (page_number f 1) ≡ false → is_page e.page (page_number f 0) ≡ false → IsHandyEntry (sights q) g e
  old_entry g e was not_page not_leader own = by (is_fid g f) refl
    where
      later : g ≡ f → (n : ℕ) → e.page.number ≡ n → IsRightOrIdle (sights q) f e.page.number e.at
      later names zero number = absurd (other_number e.page f 0 not_leader (own ∙ names) number)
      later names (suc zero) number = absurd (other_number e.page f 1 not_page (own ∙ names) number)
      later names (suc (suc n)) number = inr (two.none e.page.number (omega (arith, number)))

      by : (b : Bool) → is_fid g f ≡ b → IsRightOrIdle (sights q) g e.page.number e.at
      by false other = let same : place (sights q) g e.page.number ≡ place (sights p) g e.page.number = others.places g e.page.number other in elim (was own) [ inl right ↦ inl (same ∙ right) | inr idle ↦ inr (same ∙ idle) ]
      by true is = let names : g ≡ f = same_fid g f is in subst (λ h. IsRightOrIdle (sights q) h e.page.number e.at) (sym names) (later names e.page.number refl)

  -- an entry of page n of the new file, in its sector
  new_entry : (g : Fid) (n at : ℕ) (e : Entry) → place (sights q) f n ≡ Some at → e ≡ record { page = page_number f n; at = at } → IsHandyEntry (sights q) g e
  new_entry g n at e here is own =
      let names : f ≡ g = sym (ap (λ (x : Entry). x.page.fid) is) ∙ own in
      inl (subst (λ h. place (sights q) h e.page.number ≡ Some e.at) names (ap (λ (x : Entry). place (sights q) f x.page.number) is ∙ here ∙ ap (λ (x : Entry). Some x.at) (sym is)))

  pub made_handy : (old new : Cached) → NotesTwo f leader_at page_at old new → StaysHandy p q old new
  made_handy old new (inr rose) whole links g h = inr rose
  made_handy old new (inl is) whole links g h = inl (handy_cache (sights q) g new.entries (subst (All Now) (sym is) all))
    where
      Was : Entry → Type 0
      Was e = IsHandyEntry (sights p) g e

      Mid : Entry → Type 0
      Mid e = (e ≡ record { page = page_number f 1; at = page_at }) ⊎ (IsHandyEntry (sights p) g e × (is_page e.page (page_number f 1) ≡ false))

      Now : Entry → Type 0
      Now e = IsHandyEntry (sights q) g e

      step : (e : Entry) → (e ≡ record { page = page_number f 1; at = page_at }) ⊎ (IsHandyEntry (sights p) g e × (is_page e.page (page_number f 1) ≡ false)) → is_page e.page (page_number f 0) ≡ false → IsHandyEntry (sights q) g e
      step e (inl new) other = new_entry g 1 page_at e two.page new
      step e (inr was) other = old_entry g e was.0 was.1 other

      mid : All Mid (noted (page_number f 1) page_at old.entries)
      mid = noted_each (page_number f 1) page_at Was Mid old.entries (inl refl) (handy_entries (sights p) g old.entries h) (λ e was other. inr (was, other))

      all : All Now (noted (page_number f 0) leader_at (noted (page_number f 1) page_at old.entries))
      all = noted_each (page_number f 0) leader_at Mid Now (noted (page_number f 1) page_at old.entries) (new_entry g 0 leader_at (record { page = page_number f 0; at = leader_at }) two.leader refl) mid step
