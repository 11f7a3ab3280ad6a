-- Values leave labels, the pages that are carried, and so all links of pages.
use Rattle.std.proofs.Common.{List, Some, [], ap, refl, suc, sym, zero, ℕ, ◌++◌, ◌∙◌, ◌∷◌, ◌≡◌, Bool, cond, false, true}
use Rattle.laws_contents.specs.alto_words.specs.declared.fid.Fid.{Fid}
use Rattle.laws_contents.specs.disk_records.specs.Packs.{Pack, after, carried, sector_at}
use Rattle.laws_contents.specs.disk_records.specs.Words.{word}
use Rattle.laws_contents.specs.disk_records.specs.declared.records.Event.TheVariants.{Wrote}
use Rattle.laws_contents.specs.pack_model.specs.operations.Commands.{values_writes}
use Rattle.laws_contents.specs.pack_model.specs.reading.Files.{place}
use Rattle.laws_contents.specs.pack_model.specs.hints.Links.{PageLinks, link_to}
use Rattle.laws_contents.specs.pack_model.specs.operations.PageWords.{page_number}
use Rattle.laws_contents.specs.pack_model.specs.reading.Sights.{sights}
use Rattle.laws_contents.specs.pack_model.specs.states.Whole.{Whole}
use Rattle.laws_contents.specs.laws_record.proofs.Carried.{values_carried}
use Rattle.laws_operation.proofs.inside.links.Framing.{AllConcern, OfOne, places_alike}
use Rattle.laws_operation.proofs.inside.links.Linked.{FileLinks, file_links, link_before, page_links}
use Rattle.laws_operation.proofs.inside.links.Records.{value_label}
use Rattle.laws_contents.specs.pack_laws.proofs.Guarding.{value_page}

-- the label of each sector stays
pub values_label : (vs : List (ℕ × List ℕ)) (p : Pack) (i : ℕ) → (sector_at (after p (values_writes vs)) i).label ≡ (sector_at p i).label
values_label [] p i = refl
values_label (v ∷ vs) p i = values_label vs (after p (Wrote v.0 2 v.1 ∷ [])) i ∙ value_label p v.0 i v.1

-- values in sectors of one file concern it
abbrev pub AllOf : Fid → Pack → List (ℕ × List ℕ) → Type 0
AllOf f p [] = Unit {0}
AllOf f p (v ∷ vs) = OfOne f p v.0 × AllOf f p vs

-- two lists of them
pub of_join : (f : Fid) (p : Pack) (a b : List (ℕ × List ℕ)) → AllOf f p a → AllOf f p b → AllOf f p (a ++ b)
of_join f p [] b h g = g
of_join f p (v ∷ a) b h g = (h.0, of_join f p a b h.1 g)

-- one value or none
pub of_one : (f : Fid) (p : Pack) (c : Bool) (v : ℕ × List ℕ) → (c ≡ false → OfOne f p v.0) → AllOf f p (cond c [] (v ∷ []))
of_one f p true v h = tt
of_one f p false v h = (h refl, tt)

-- also once a value is written
of_still : (f : Fid) (vs : List (ℕ × List ℕ)) (p : Pack) (at : ℕ) (value : List ℕ) → AllOf f p vs → AllOf f (after p (Wrote at 2 value ∷ [])) vs
of_still f [] p at value h = tt
of_still f (v ∷ vs) p at value h = (λ x is. h.0 x (sym (value_page p at value v.0) ∙ is), of_still f vs p at value h.1)

-- so they do together
pub values_concern : (f : Fid) (vs : List (ℕ × List ℕ)) (p : Pack) → AllOf f p vs → AllConcern f p (values_writes vs)
values_concern f [] p h = tt
values_concern f (v ∷ vs) p h = (h.0, values_concern f vs (after p (Wrote v.0 2 v.1 ∷ [])) (of_still f vs p v.0 v.1 h.1))

-- a sector with a page of f is of f
pub of_carried : (f : Fid) (n : ℕ) (p : Pack) (i : ℕ) → carried p i ≡ Some (page_number f n) → OfOne f p i
of_carried f n p i here x is = let e : Some (page_number f n) ≡ Some x = sym here ∙ is in let same : page_number f n ≡ x = cc in ap (λ y. y.fid) (sym same)

-- ---- links
module _ (vs : List (ℕ × List ℕ)) (p : Pack) (wp : Whole p) (wq : Whole (after p (values_writes vs))) where
  -- the places of all pages stay
  pub values_place : (f : Fid) (n : ℕ) → place (sights (after p (values_writes vs))) f n ≡ place (sights p) f n
  values_place f n = places_alike p (after p (values_writes vs)) wp wq (page_number f n) (λ i is. values_carried vs p i ∙ is) (λ i is. sym (values_carried vs p i) ∙ is)

  -- the links too
  pub files_linked : (f : Fid) → FileLinks p f → FileLinks (after p (values_writes vs)) f
  files_linked f links n i e =
      let h = links n i (sym (values_place f n) ∙ e) in
      record {
        next = ap (λ l. word l 0) (values_label vs p i) ∙ h.next ∙ ap (link_to p.shape) (sym (values_place f (suc n)));
        previous = ap (λ l. word l 1) (values_label vs p i) ∙ h.previous ∙ by n;
      }
    where
      by : (n : ℕ) → link_before p.shape (sights p) f n ≡ link_before p.shape (sights (after p (values_writes vs))) f n
      by zero = refl
      by (suc n) = ap (link_to p.shape) (sym (values_place f n))

  -- so links of pages in use are true
  pub values_linked : PageLinks p → PageLinks (after p (values_writes vs))
  values_linked links = page_links (after p (values_writes vs)) wq (λ f. files_linked f (file_links p wp links f))
