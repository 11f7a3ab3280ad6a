-- Record writes in sectors of one file, or of none: the other files stay, with their links.
use Rattle.std.proofs.Common.{List, None, Option, Some, [], ap, false, inl, inr, refl, subst, suc, sym, zero, ℕ, ◌++◌, ◌∙◌, ◌∷◌, ◌≡◌, ◌⊎◌}
use Rattle.std.proofs.lemmas.Bool.{cases_eq}
use Rattle.laws_contents.specs.alto_words.specs.Fid.{is_fid}
use Rattle.laws_contents.specs.alto_words.specs.declared.fid.Fid.{Fid}
use Rattle.laws_contents.specs.disk_records.specs.Labels.{page_of}
use Rattle.laws_contents.specs.disk_records.specs.Packs.{Pack, after, carried, sector_at}
use Rattle.laws_contents.specs.disk_records.specs.Words.{word}
use Rattle.laws_contents.specs.disk_records.specs.declared.records.Event.{Event}
use Rattle.laws_contents.specs.disk_records.specs.declared.records.Event.TheVariants.{Shown, Wrote}
use Rattle.laws_contents.specs.disk_records.specs.declared.records.Page.{Page}
use Rattle.laws_contents.specs.pack_model.specs.reading.Files.{place}
use Rattle.laws_contents.specs.pack_model.specs.hints.Links.{link_to}
use Rattle.laws_contents.specs.pack_model.specs.operations.PageWords.{page_number}
use Rattle.laws_contents.specs.pack_model.specs.reading.Sights.{sights}
use Rattle.laws_contents.specs.pack_model.specs.states.Whole.{Whole}
use Rattle.laws_contents.specs.laws_record.proofs.Copying.{place_carried}
use Rattle.laws_contents.specs.laws_record.proofs.Carried.{carried_place}
use Rattle.laws_operation.proofs.inside.Elsewhere.{not_same}
use Rattle.laws_operation.proofs.inside.links.Linked.{FileLinks, link_before}
use Rattle.laws_operation.proofs.inside.links.Records.{carried_same, label_carried}
use Rattle.laws_contents.specs.pack_laws.proofs.Guarding.{other_kept, value_page}

-- ---- record writes that concern one file
-- the sector carries nothing, or a page of f
abbrev pub OfOne : Fid → Pack → ℕ → Type 0
OfOne f p i = (x : Page) → carried p i ≡ Some x → x.fid ≡ f

-- a value in such a sector, or a label that names nothing or a page of f
abbrev pub Concerns : Fid → Pack → Event → Type 0
Concerns f p (Wrote at zero words) = ⊥
Concerns f p (Wrote at (suc zero) label) = OfOne f p at × ((x : Page) → page_of label ≡ Some x → x.fid ≡ f)
Concerns f p (Wrote at (suc (suc zero)) value) = OfOne f p at
Concerns f p (Wrote at (suc (suc (suc n))) words) = ⊥
Concerns f p (Shown byte) = ⊥

-- each, when its turn comes
abbrev pub AllConcern : Fid → Pack → List Event → Type 0
AllConcern f p [] = Unit {0}
AllConcern f p (e ∷ events) = Concerns f p e × AllConcern f (after p (e ∷ [])) events

-- the sector is as it was, or it is of f before and after
abbrev pub Beside : Fid → Pack → Pack → ℕ → Type 0
Beside f p q i = (sector_at q i ≡ sector_at p i) ⊎ (OfOne f p i × OfOne f q i)

-- one record
one_beside : (f : Fid) (p : Pack) (e : Event) → Concerns f p e → (i : ℕ) → Beside f p (after p (e ∷ [])) i
one_beside f p (Wrote at zero words) h i = absurd h
one_beside f p (Wrote at (suc zero) label) h i = elim (cases_eq i at) [
  | inl e ↦
      let was : OfOne f p i = subst (OfOne f p) (sym e) h.0 in
      inr (was, λ x is. elim (label_carried p at i label x is) [ inl new ↦ h.1 x new.1 | inr old ↦ was x old ])
  | inr other ↦ inl (other_kept p at 1 label i other)
]
one_beside f p (Wrote at (suc (suc zero)) value) h i = elim (cases_eq i at) [
  | inl e ↦ let was : OfOne f p i = subst (OfOne f p) (sym e) h in inr (was, λ x is. was x (sym (value_page p at value i) ∙ is))
  | inr other ↦ inl (other_kept p at 2 value i other)
]
one_beside f p (Wrote at (suc (suc (suc n))) words) h i = absurd h
one_beside f p (Shown byte) h i = absurd h

-- one after another
beside_twice : (f : Fid) (p q r : Pack) (i : ℕ) → q.shape ≡ p.shape → r.shape ≡ q.shape → Beside f p q i → Beside f q r i → Beside f p r i
beside_twice f p q r i s t a b = elim a [
  | inl e ↦ elim b [ inl g ↦ inl (g ∙ e) | inr m ↦ inr (λ x is. m.0 x (carried_same p q i s e ∙ is), m.1) ]
  | inr n ↦ elim b [ inl g ↦ inr (n.0, λ x is. n.1 x (sym (carried_same q r i t g) ∙ is)) | inr m ↦ inr (n.0, m.1) ]
]

-- all of them
pub all_beside : (f : Fid) (p : Pack) (events : List Event) → AllConcern f p events → (i : ℕ) → Beside f p (after p events) i
all_beside f p [] h i = inl refl
all_beside f p (e ∷ events) h i = beside_twice f p (after p (e ∷ [])) (after p (e ∷ events)) i refl refl (one_beside f p e h.0 i) (all_beside f (after p (e ∷ [])) events h.1 i)

-- two parts
pub concern_join : (f : Fid) (p : Pack) (a b : List Event) → AllConcern f p a → AllConcern f (after p a) b → AllConcern f p (a ++ b)
concern_join f p [] b h g = g
concern_join f p (e ∷ a) b h g = (h.0, concern_join f (after p (e ∷ [])) a b h.1 g)

-- ---- the pages that two whole packs carry
-- pages that are carried alike have the same places
pub places_alike : (p q : Pack) → Whole p → Whole q → (x : Page) → ((i : ℕ) → carried p i ≡ Some x → carried q i ≡ Some x) → ((i : ℕ) → carried q i ≡ Some x → carried p i ≡ Some x) → place (sights q) x.fid x.number ≡ place (sights p) x.fid x.number
places_alike p q wp wq x to from = by (place (sights p) x.fid x.number) (place (sights q) x.fid x.number) refl refl
  where
    by : (r s : Option ℕ) → place (sights p) x.fid x.number ≡ r → place (sights q) x.fid x.number ≡ s → s ≡ r
    by (Some i) s a b = sym b ∙ carried_place q wq i x (to i (place_carried p x i a))
    by None None a b = refl
    by None (Some j) a b = let c : None ≡ Some j = sym a ∙ carried_place p wp j x (from j (place_carried q x j b)) in absurd cc

module _ (p : Pack) (f : Fid) (events : List Event) (wp : Whole p) (wq : Whole (after p events)) (all : AllConcern f p events) where
  -- a sector with a page of another file is as it was
  pub other_sector : (g : Fid) (n i : ℕ) → is_fid g f ≡ false → carried p i ≡ Some (page_number g n) → sector_at (after p events) i ≡ sector_at p i
  other_sector g n i ne is = elim (all_beside f p events all i) [ inl e ↦ e | inr m ↦ absurd (not_same g f ne (m.0 (page_number g n) is)) ]

  -- also by what is carried then
  other_back : (g : Fid) (n i : ℕ) → is_fid g f ≡ false → carried (after p events) i ≡ Some (page_number g n) → carried p i ≡ Some (page_number g n)
  other_back g n i ne is = elim (all_beside f p events all i) [ inl e ↦ sym (carried_same p (after p events) i refl e) ∙ is | inr m ↦ absurd (not_same g f ne (m.1 (page_number g n) is)) ]

  -- its places stay
  pub other_place : (g : Fid) (n : ℕ) → is_fid g f ≡ false → place (sights (after p events)) g n ≡ place (sights p) g n
  other_place g n ne = places_alike p (after p events) wp wq (page_number g n)
      (λ i is. carried_same p (after p events) i refl (other_sector g n i ne is) ∙ is)
      (λ i is. other_back g n i ne is)

  -- and so do its links
  pub other_links : (g : Fid) → is_fid g f ≡ false → FileLinks p g → FileLinks (after p events) g
  other_links g ne links n i e =
      let q : Pack = after p events in
      let was : place (sights p) g n ≡ Some i = sym (other_place g n ne) ∙ e in
      let h = links n i was in
      let same : sector_at q i ≡ sector_at p i = other_sector g n i ne (place_carried p (page_number g n) i was) in
      record {
        next = ap (λ s. word s.label 0) same ∙ h.next ∙ ap (link_to p.shape) (sym (other_place g (suc n) ne));
        previous = ap (λ s. word s.label 1) same ∙ h.previous ∙ by n;
      }
    where
      by : (n : ℕ) → link_before p.shape (sights p) g n ≡ link_before p.shape (sights (after p events)) g n
      by zero = refl
      by (suc n) = ap (link_to p.shape) (sym (other_place g n ne))
