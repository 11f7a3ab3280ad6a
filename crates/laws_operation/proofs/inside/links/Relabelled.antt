-- A page gets another label, and its value again.
use Rattle.std.proofs.Common.{List, None, Some, [], ap, cond, inl, inr, length, sym, true, ℕ, ◌<◌, ◌∙◌, ◌∷◌, ◌≡◌, ◌≢◌, ◌⊎◌}
use Rattle.laws_contents.specs.alto_words.specs.declared.fid.Fid.{Fid}
use Rattle.laws_contents.specs.disk_records.specs.Commands.{relabel_writes}
use Rattle.laws_contents.specs.disk_records.specs.Labels.{page_of}
use Rattle.laws_contents.specs.disk_records.specs.Packs.{Pack, after, carried, is_usable, sector_at}
use Rattle.laws_contents.specs.disk_records.specs.declared.records.Event.TheVariants.{Wrote}
use Rattle.laws_contents.specs.disk_records.specs.declared.records.Page.{Page}
use Rattle.laws_contents.specs.pack_laws.proofs.Guarding.{here_written, other_kept, usable_within, value_page}
use Rattle.laws_operation.proofs.inside.links.Framing.{AllConcern, OfOne}
use Rattle.laws_operation.proofs.inside.links.Records.{label_carried, value_label}

module _ (p : Pack) (at : ℕ) (label value : List ℕ) where
  -- what is carried then
  pub relabel_carried : (i : ℕ) (x : Page) → carried (after p (relabel_writes at label value)) i ≡ Some x → ((i ≡ at) × (page_of label ≡ Some x)) ⊎ (carried p i ≡ Some x)
  relabel_carried i x is = label_carried p at i label x (sym (value_page (after p (Wrote at 1 label ∷ [])) at value i) ∙ is)

  -- other sectors stay
  pub relabel_apart : (i : ℕ) → i ≢ at → sector_at (after p (relabel_writes at label value)) i ≡ sector_at p i
  relabel_apart i ne = other_kept (after p (Wrote at 1 label ∷ [])) at 2 value i ne ∙ other_kept p at 1 label i ne

  -- the sector has the label
  pub relabel_label : at < length p.sectors → (sector_at (after p (relabel_writes at label value)) at).label ≡ label
  relabel_label l = value_label (after p (Wrote at 1 label ∷ [])) at at value ∙ ap (λ s. s.label) (here_written p at 1 label l)

  -- and carries the page that it names
  pub relabel_here : (x : Page) → is_usable p.shape at (sector_at p at) ≡ true → page_of label ≡ Some x → carried (after p (relabel_writes at label value)) at ≡ Some x
  relabel_here x usable names =
      value_page (after p (Wrote at 1 label ∷ [])) at value at
      ∙ ap (λ s. cond (is_usable p.shape at s) (page_of s.label) None) (here_written p at 1 label (usable_within p at usable))
      ∙ ap (λ b. cond b (page_of label) None) usable ∙ names

  module _ (f : Fid) (names : (x : Page) → page_of label ≡ Some x → x.fid ≡ f) where
    -- a sector of f is of f still
    pub relabel_of : (i : ℕ) → OfOne f p i → OfOne f (after p (relabel_writes at label value)) i
    relabel_of i of x is = elim (relabel_carried i x is) [ inl new ↦ names x new.1 | inr old ↦ of x old ]

    -- so they concern f
    pub relabel_concern : OfOne f p at → AllConcern f p (relabel_writes at label value)
    relabel_concern of = ((of, names), (still, tt))
      where
        still : OfOne f (after p (Wrote at 1 label ∷ [])) at
        still x is = elim (label_carried p at at label x is) [ inl new ↦ names x new.1 | inr old ↦ of x old ]
