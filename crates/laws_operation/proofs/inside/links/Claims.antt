-- A free sector gets a page: its value, its label, and its value again.
use Rattle.std.proofs.Common.{List, Some, [], ap, false, get_or, inl, inr, sym, true, ℕ, ◌&&◌, ◌∙◌, ◌∷◌, ◌≡◌, ◌⊎◌}
use Rattle.std.specs.Prelude.{nat_lt}
use Rattle.laws_contents.specs.alto_words.specs.declared.fid.Fid.{Fid}
use Rattle.laws_contents.specs.disk_records.specs.Addresses.{is_right_header}
use Rattle.laws_contents.specs.disk_records.specs.Commands.{claim_writes}
use Rattle.laws_contents.specs.disk_records.specs.Labels.{page_of}
use Rattle.laws_contents.specs.disk_records.specs.Packs.{Pack, after, carried, is_usable, sector_at}
use Rattle.laws_contents.specs.disk_records.specs.declared.records.Event.TheVariants.{Wrote}
use Rattle.laws_contents.specs.disk_records.specs.declared.records.Page.{Page}
use Rattle.laws_contents.specs.pack_model.specs.reading.Files.{carries_page}
use Rattle.laws_contents.specs.pack_model.specs.reading.Sights.{sights}
use Rattle.laws_contents.specs.pack_model.specs.reading.Sights.Sight.{free, hidden}
use Rattle.laws_contents.specs.pack_laws.proofs.Guarding.{front_from, usable_within, value_page}
use Rattle.laws_contents.specs.laws_record.proofs.Carried.{carried_shows}
use Rattle.laws_operation.proofs.inside.links.Framing.{AllConcern, OfOne}
use Rattle.laws_operation.proofs.inside.links.Relabelled.{relabel_carried, relabel_concern, relabel_here, relabel_label}

-- a free sector carries nothing
pub free_none : (p : Pack) (at : ℕ) → get_or (sights p) at hidden ≡ free → (x : Page) → carried p at ≡ Some x → ⊥
free_none p at e x is = let clash : false ≡ true = sym (ap (carries_page x.fid x.number) e) ∙ carried_shows p at x is in cc

module _ (p : Pack) (at : ℕ) (label value : List ℕ) where
  -- the pack with the value
  abbrev valued : Pack
  valued = after p (Wrote at 2 value ∷ [])

  -- what is carried then
  pub claim_carried : (i : ℕ) (x : Page) → carried (after p (claim_writes at label value)) i ≡ Some x → ((i ≡ at) × (page_of label ≡ Some x)) ⊎ (carried p i ≡ Some x)
  claim_carried i x is = elim (relabel_carried valued at label value i x is) [ inl new ↦ inl new | inr old ↦ inr (sym (value_page p at value i) ∙ old) ]

  -- its header stays
  still_usable : is_usable p.shape at (sector_at (after p (Wrote at 2 value ∷ [])) at) ≡ is_usable p.shape at (sector_at p at)
  still_usable = let front = front_from p.sectors at at value in λ j. nat_lt 0 at && is_right_header p.shape at (front.0 j)

  -- it has the label
  pub claim_label : is_usable p.shape at (sector_at p at) ≡ true → (sector_at (after p (claim_writes at label value)) at).label ≡ label
  claim_label usable = relabel_label valued at label value (usable_within valued at (still_usable ∙ usable))

  -- and carries the page
  pub claim_here : (x : Page) → is_usable p.shape at (sector_at p at) ≡ true → page_of label ≡ Some x → carried (after p (claim_writes at label value)) at ≡ Some x
  claim_here x usable names = relabel_here valued at label value x (still_usable ∙ usable) names

  -- a claim for f
  pub claim_concern : (f : Fid) → ((x : Page) → page_of label ≡ Some x → x.fid ≡ f) → OfOne f p at → AllConcern f p (claim_writes at label value)
  claim_concern f names of = (of, relabel_concern valued at label value f names (λ x is. of x (sym (value_page p at value at) ∙ is)))

  -- a sector of f is of f still
  pub claim_of : (f : Fid) → ((x : Page) → page_of label ≡ Some x → x.fid ≡ f) → (i : ℕ) → OfOne f p i → OfOne f (after p (claim_writes at label value)) i
  claim_of f names i of x is = elim (claim_carried i x is) [ inl new ↦ names x new.1 | inr old ↦ of x old ]
