-- The bits of a table beside releases, whatever of them was done.
use Rattle.std.proofs.Common.{Bool, List, Some, [], ap, arith, false, get_or, inl, inr, refl, set, subst, suc, sym, zero, ℕ, ◌<◌, ◌∙◌, ◌∷◌, ◌≡◌, ◌≢◌, ◌⊎◌}
use Rattle.std.proofs.lemmas.List.{get_or-set_other}
use Rattle.alto_words.specs.declared.fid.Fid.{Fid}
use Rattle.disk_records.proofs.Framing.{free_by_sector}
use Rattle.disk_records.proofs.Growing.{pack-after}
use Rattle.disk_records.specs.Commands.{release_writes}
use Rattle.disk_records.specs.Frames.{IsFreeSector, IsPageOf, WritesIn}
use Rattle.disk_records.specs.Packs.{Pack, after, carried, is_free_at, no_sector, sector_at, with_part}
use Rattle.disk_records.specs.Tapes.{Grown, Taped, added, pack}
use Rattle.disk_records.specs.declared.records.Event.TheVariants.{Shown, Wrote}
use Rattle.disk_records.specs.declared.records.Event.{Event}
use Rattle.disk_records.specs.declared.records.Page.{Page}
use Rattle.hint_cache.specs.Bits.{busy_at}
use Rattle.laws_call.specs.pack_laws.proofs.guards.Laws.{release_frees_at_the_label}
use Rattle.laws_midway.proofs.loops.Laws.{carried_is_apart_from_free}
use Rattle.file_pages.specs.Releasing.{KeepsOrFrees, KeepsOrFreesAt}

-- ---- the sectors
-- one in which nothing is written stays
sector_stays : (Here : ℕ → Type 0) (p : Pack) (events : List Event) (at : ℕ) → (Here at → ⊥) → WritesIn Here events → sector_at (after p events) at ≡ sector_at p at
sector_stays Here p [] at other all = refl
sector_stays Here p (Shown byte ∷ events) at other all = sector_stays Here p events at other all
sector_stays Here p (Wrote i part words ∷ events) at other all =
    let apart : at ≢ i = λ same. other (subst Here (sym same) all.1.0) in
    sector_stays Here (after p (Wrote i part words ∷ [])) events at other all.1.1 ∙ get_or-set_other p.sectors i at (with_part part words (sector_at p i)) no_sector apart

-- a sector that carries a page isn't free
not_both : (p : Pack) (at : ℕ) (page : Page) → carried p at ≡ Some page → IsFreeSector p at → ⊥
not_both p at page carries free = carried_is_apart_from_free p at page (at ∷ []) carries (λ k d within. one k d within) 0 at (omega arith) refl
  where
    one : (k d : ℕ) → k < 1 → IsFreeSector p (get_or (at ∷ []) k d)
    one zero d within = free
    one (suc k) d within = absurd (omega (arith, within))

-- so a free sector stays free where pages of a file are written
free_stays : (f : Fid) {a b : Taped} → Grown a b → WritesIn (IsPageOf f (pack a)) (added a b) → (at : ℕ) → IsFreeSector (pack a) at → IsFreeSector (pack b) at
free_stays f {a} {b} x all at free =
    let same : sector_at (pack b) at ≡ sector_at (pack a) at = ap (λ (q : Pack). sector_at q at) (pack-after x) ∙ sector_stays (IsPageOf f (pack a)) (pack a) (added a b) at (λ page. not_both (pack a) at _ page.carries free) all in
    free_by_sector (pack b) (pack a) at (sym x.form) (sym same) free

-- and one that was released is free
pub released_free : {a b : Taped} (at : ℕ) (page : Page) → Grown a b → carried (pack a) at ≡ Some page → added a b ≡ release_writes at → IsFreeSector (pack b) at
released_free {a} at page x carries wrote = ap (λ (q : Pack). is_free_at q at) (pack-after x) ∙ ap (λ l. is_free_at (after (pack a) l) at) wrote ∙ (release_frees_at_the_label (pack a) at page 2 carries (omega arith)).free_here

-- ---- the bits
cleared : (bits : List Bool) (at k : ℕ) → (busy_at (set bits at false) k ≡ busy_at bits k) ⊎ ((at ≡ k) × (busy_at (set bits at false) k ≡ false))
cleared [] at k = inl refl
cleared (x ∷ bits) zero zero = inr (refl, refl)
cleared (x ∷ bits) zero (suc k) = inl refl
cleared (x ∷ bits) (suc at) zero = inl refl
cleared (x ∷ bits) (suc at) (suc k) = elim (cleared bits at k) [ inl same ↦ inl same | inr here ↦ inr (ap suc here.0, here.1) ]

-- none was touched
pub keeps_bits : (p : Pack) {s t : List Bool} → t ≡ s → KeepsOrFrees p s t
keeps_bits p same at = inl (ap (λ l. busy_at l at) same)

-- that of a free sector was cleared
pub frees_one : (p : Pack) (at : ℕ) (s t : List Bool) → IsFreeSector p at → t ≡ set s at false → KeepsOrFrees p s t
frees_one p at s t free is i = subst (λ (l : List Bool). KeepsOrFreesAt p s l i) (sym is) (elim (cleared s at i) [
  | inl same ↦ inl same
  | inr here ↦ inr (here.1, subst (IsFreeSector p) here.0 free)
])

-- one call after another that writes in pages of the file
pub frees_then : (f : Fid) {a b : Taped} (s t u : List Bool) → Grown a b → WritesIn (IsPageOf f (pack a)) (added a b) → KeepsOrFrees (pack a) s t → KeepsOrFrees (pack b) t u → KeepsOrFrees (pack b) s u
frees_then f {a} {b} s t u x writes first second at = by (second at) (first at)
  where
    by : KeepsOrFreesAt (pack b) t u at → KeepsOrFreesAt (pack a) s t at → KeepsOrFreesAt (pack b) s u at
    by (inr freed) before = inr freed
    by (inl same) (inl before) = inl (same ∙ before)
    by (inl same) (inr before) = inr (same ∙ before.0, free_stays f x writes at before.1)
