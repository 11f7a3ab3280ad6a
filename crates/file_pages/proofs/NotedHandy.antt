-- A page that was seen is noted: it is listed, and a handy cache stays so.
use Rattle.std.proofs.Common.{Bool, IsTrue, List, Some, ap, arith, get_or, inl, inr, refl, subst, sym, ℕ, ◌∙◌, ◌≡◌, ◌≤◌, ◌⊎◌}
use Rattle.std.specs.Prelude.{Contains}
use Rattle.std.proofs.lemmas.List.Elements.{All-contains}
use Rattle.alto_words.specs.declared.fid.Fid.{Fid}
use Rattle.disk_records.specs.Packs.{Pack, carried}
use Rattle.disk_records.specs.declared.records.Page.{Page}
use Rattle.hint_cache.proofs.Pages.{is_page-itself}
use Rattle.hint_cache.specs.Caches.{Cached, address_in, noted}
use Rattle.hint_cache.specs.declared.cache.Entry.{Entry}
use Rattle.laws_call.specs.laws_record.proofs.Carried.{carried_place}
use Rattle.page_seeking.specs.Parts.{IsListed}
use Rattle.page_seeking.specs.Seeking.{KeepsHandy, Refused}
use Rattle.pack_model.specs.reading.Files.{place}
use Rattle.pack_model.specs.reading.Sights.{sights}
use Rattle.file_pages.proofs.GrownHandy.{IsHandyEntry, handy_cache, handy_entries}
use Rattle.file_pages.specs.Growing.{NotesOne}

here : (page : Page) (at : ℕ) (entries : List Entry) → address_in (noted page at entries) page ≡ Some at
here page at entries = rw is_page-itself refl

pub noted_listed : {told : Bool} (p : Pack) {page : Page} {at : ℕ} (old : Cached) {mid new : Cached} → old.refused ≤ mid.refused → (IsTrue told → carried p at ≡ Some page) → NotesOne page at mid new → IsListed told p page new ⊎ Refused old new
noted_listed p {page} {at} old {mid} grows there one = elim (one.entries) [
  | inl wrote ↦ inl (record { at = at; listed = ap (λ l. address_in l page) wrote ∙ here page at mid.entries; carries = there })
  | inr rose ↦ inr (omega (arith, grows, rose))
]

pub noted_handy : (p : Pack) {page : Page} {at : ℕ} (old : Cached) {mid new : Cached} → carried p at ≡ Some page → KeepsHandy p old mid → NotesOne page at mid new → KeepsHandy p old new
noted_handy p {page} {at} old {mid} {new} there keeps one whole links f handy = handy_cache (sights p) f new.entries (λ k d within. each (get_or new.entries k d) (one.each k d within))
  where
    each : (e : Entry) → Contains mid.entries e ⊎ (e ≡ record { page = page; at = at }) → IsHandyEntry (sights p) f e
    each e (inl old_one) = All-contains (IsHandyEntry (sights p) f) mid.entries e (handy_entries (sights p) f mid.entries (keeps whole links f handy)) old_one
    each e (inr is) = subst (IsHandyEntry (sights p) f) (sym is) (λ own. inl (subst (λ (g : Fid). place (sights p) g page.number ≡ Some at) own (carried_place p whole at page there)))
