-- No page that went is listed.
use Rattle.std.proofs.Common.{Bool, IsTrue, List, None, Option, Some, [], ap, arith, inl, inr, refl, sym, ℕ, ◌∙◌, ◌∷◌, ◌≡◌, ◌≢◌, ◌⊎◌}
use Rattle.disk_records.proofs.Growing.{pack-after}
use Rattle.disk_records.proofs.Looking.{looks_pack}
use Rattle.disk_records.specs.Commands.{ones, relabel_writes, release_writes}
use Rattle.disk_records.specs.Events.{IsFirstOf}
use Rattle.disk_records.specs.Labels.{page_of}
use Rattle.disk_records.specs.Packs.{Pack, after, carried, sector_at}
use Rattle.disk_records.specs.Tapes.{Grown, Looks, Taped, added, pack}
use Rattle.disk_records.specs.declared.records.Event.TheVariants.{Wrote}
use Rattle.disk_records.specs.declared.records.Event.{Event}
use Rattle.disk_records.specs.declared.records.Page.{Page}
use Rattle.hint_cache.specs.Caches.{Cached, address_in}
use Rattle.laws_call.specs.pack_laws.proofs.guards.Laws.{relabel_keeps_the_page, release_frees_at_the_label}
use Rattle.page_seeking.specs.Parts.{IsListed}
use Rattle.page_seeking.specs.Seeking.{Refused}
use Rattle.file_pages.proofs.Following.{same_or_not}
use Rattle.file_pages.specs.Releasing.{ListsNoMore, ListsNoneGone}

one : {T : Type 0} {a b : T} → ◌≡◌ {A = Option T} (Some a) (Some b) → a ≡ b
one e = cc

clash : {k : ℕ} → ◌≡◌ {A = Option ℕ} None (Some k) → ⊥
clash e = cc

-- over two calls
pub none_gone_twice : (p q r : Pack) (c d : Cached) → ListsNoneGone p q c → ListsNoMore c d → ListsNoneGone q r d → ListsNoneGone p r d
none_gone_twice p q r c d first less second page i at listed there = by (address_in c.entries page) refl
  where
    by : (a : Option ℕ) → address_in c.entries page ≡ a → carried r i ≡ Some page
    by None none = absurd (clash (sym (less page none) ∙ listed))
    by (Some k) is = second page i at listed (first page i k is there)

-- ---- two record writes, of which a prefix was done
two_at_most : (w v : Event) (events : List Event) → IsFirstOf (w ∷ v ∷ []) events → (events ≡ []) ⊎ ((events ≡ w ∷ []) ⊎ (events ≡ w ∷ v ∷ []))
two_at_most w v [] h = inl refl
two_at_most w v (x ∷ []) h = inr (inl (ap (λ e. e ∷ []) h.0))
two_at_most w v (x ∷ y ∷ []) h = inr (inr (λ i. h.0 i ∷ h.1.0 i ∷ []))
two_at_most w v (x ∷ y ∷ z ∷ events) h = absurd h.1.1

-- a release, whatever of it was done
others_stay : (p : Pack) (to : ℕ) (page : Page) (events : List Event) → carried p to ≡ Some page → IsFirstOf (release_writes to) events → (i : ℕ) → i ≢ to → carried (after p events) i ≡ carried p i
others_stay p to page events is h i other = elim (two_at_most (Wrote to 1 (ones 8)) (Wrote to 2 (ones 256)) events h) [
  | inl none ↦ ap (λ l. carried (after p l) i) none
  | inr more ↦ elim more [
    | inl first ↦ ap (λ l. carried (after p l) i) first ∙ (release_frees_at_the_label p to page 1 is (omega arith)).pages i other
    | inr both ↦ ap (λ l. carried (after p l) i) both ∙ (release_frees_at_the_label p to page 2 is (omega arith)).pages i other
  ]
]

-- of a page that isn't listed
pub release_forgets : {a b : Taped} (to : ℕ) (page : Page) (cache : Cached) → Grown a b → carried (pack a) to ≡ Some page → IsFirstOf (release_writes to) (added a b) → address_in cache.entries page ≡ None → ListsNoneGone (pack a) (pack b) cache
release_forgets {a} {b} to page cache grown is some none other i at listed there = elim (same_or_not i to) [
  | inl same ↦
      let named : page ≡ other = one (sym is ∙ ap (carried (pack a)) (sym same) ∙ there) in
      absurd (clash (sym none ∙ ap (address_in cache.entries) named ∙ listed))
  | inr apart ↦ ap (λ (q : Pack). carried q i) (pack-after grown) ∙ others_stay (pack a) to page (added a b) is some i apart ∙ there
]

-- another label of the same page, whatever of it was done
kept_by : (p q : Pack) (at : ℕ) (page : Page) → carried p at ≡ Some page → carried q at ≡ Some page → ((i : ℕ) → i ≢ at → carried q i ≡ carried p i) → (i : ℕ) → carried q i ≡ carried p i
kept_by p q at page was is others i = elim (same_or_not i at) [ inl same ↦ ap (carried q) same ∙ is ∙ sym was ∙ ap (carried p) (sym same) | inr apart ↦ others i apart ]

pages_stay : (p : Pack) (at : ℕ) (page : Page) (label : List ℕ) (events : List Event) → carried p at ≡ Some page → page_of label ≡ Some page → IsFirstOf (relabel_writes at label (sector_at p at).value) events → (i : ℕ) → carried (after p events) i ≡ carried p i
pages_stay p at page label events is same h i = elim (two_at_most (Wrote at 1 label) (Wrote at 2 (sector_at p at).value) events h) [
  | inl none ↦ ap (λ l. carried (after p l) i) none
  | inr more ↦ elim more [
    | inl first ↦ let change = relabel_keeps_the_page p at page label 1 is same (omega arith) in ap (λ l. carried (after p l) i) first ∙ kept_by p (after p (Wrote at 1 label ∷ [])) at page is change.page_here change.pages i
    | inr both ↦ let change = relabel_keeps_the_page p at page label 2 is same (omega arith) in ap (λ l. carried (after p l) i) both ∙ kept_by p (after p (Wrote at 1 label ∷ Wrote at 2 (sector_at p at).value ∷ [])) at page is change.page_here change.pages i
  ]
]

pub relabel_loses_none : {a b : Taped} (at : ℕ) (page : Page) (label : List ℕ) (cache : Cached) → Grown a b → carried (pack a) at ≡ Some page → page_of label ≡ Some page → IsFirstOf (relabel_writes at label (sector_at (pack a) at).value) (added a b) → ListsNoneGone (pack a) (pack b) cache
relabel_loses_none {a} {b} at page label cache grown is same some other i k listed there = ap (λ (q : Pack). carried q i) (pack-after grown) ∙ pages_stay (pack a) at page label (added a b) is same some i ∙ there

-- a call that only looked
pub looked_only : {told : Bool} {n : ℕ} {a b : Taped} (cache : Cached) → Looks told n a b → IsTrue told → ListsNoneGone (pack a) (pack b) cache
looked_only cache looks told page i at listed there = ap (λ (q : Pack). carried q i) (looks_pack looks told) ∙ there

-- ---- a page that stays listed
pub listed_still : {told : Bool} {p : Pack} {page : Page} (c d e : Cached) → address_in e.entries page ≡ address_in d.entries page → e.refused ≡ d.refused → IsListed told p page d ⊎ Refused c d → IsListed told p page e ⊎ Refused c e
listed_still c d e same count (inl x) = inl (record { at = x.at; listed = same ∙ x.listed; carries = x.carries })
listed_still c d e same count (inr rose) = inr (omega (arith, count, rose))
