-- No page is carried twice, record write by record write.
use Rattle.std.proofs.Common.{List, Some, [], inl, inr, suc, sym, zero, ℕ, ◌++◌, ◌∙◌, ◌∷◌, ◌≡◌}
use Rattle.laws_contents.specs.disk_records.specs.Commands.{claim_writes, ones, relabel_writes}
use Rattle.laws_contents.specs.disk_records.specs.Labels.{page_of}
use Rattle.laws_contents.specs.disk_records.specs.Packs.{Pack, after, carried}
use Rattle.laws_contents.specs.disk_records.specs.declared.records.Event.{Event}
use Rattle.laws_contents.specs.disk_records.specs.declared.records.Event.TheVariants.{Shown, Wrote}
use Rattle.laws_contents.specs.disk_records.specs.declared.records.Page.{Page}
use Rattle.laws_contents.specs.pack_model.specs.operations.Commands.{releases_writes, values_writes}
use Rattle.laws_contents.specs.pack_model.specs.scavenger.Scavenging.{Throughout}
use Rattle.laws_operation.proofs.inside.links.Records.{label_carried}
use Rattle.laws_operation.proofs.inside.links.Releases.{ones_not}
use Rattle.laws_operation.specs.OnceLaws.{CarriedOnce}
use Rattle.laws_contents.specs.pack_laws.proofs.Guarding.{value_page}

-- a label names no page that another sector carries
abbrev pub NamesAlone : Pack → ℕ → List ℕ → Type 0
NamesAlone p at label = (x : Page) → page_of label ≡ Some x → (i : ℕ) → carried p i ≡ Some x → i ≡ at

-- a value, or such a label
abbrev pub Alone : Pack → Event → Type 0
Alone p (Wrote at zero words) = ⊥
Alone p (Wrote at (suc zero) label) = NamesAlone p at label
Alone p (Wrote at (suc (suc zero)) value) = Unit {0}
Alone p (Wrote at (suc (suc (suc n))) words) = ⊥
Alone p (Shown byte) = ⊥

-- each, when its turn comes
abbrev pub AllAlone : Pack → List Event → Type 0
AllAlone p [] = Unit {0}
AllAlone p (e ∷ events) = Alone p e × AllAlone (after p (e ∷ [])) events

-- one record write
alone_once : (p : Pack) (e : Event) → CarriedOnce p → Alone p e → CarriedOnce (after p (e ∷ []))
alone_once p (Wrote at zero words) once h i j x a b = absurd h
alone_once p (Wrote at (suc zero) label) once h i j x a b = elim (label_carried p at i label x a) [
  | inl new ↦ elim (label_carried p at j label x b) [
    | inl too ↦ new.0 ∙ sym too.0
    | inr old ↦ new.0 ∙ sym (h x new.1 j old)
  ]
  | inr old ↦ elim (label_carried p at j label x b) [
    | inl new ↦ h x new.1 i old ∙ sym new.0
    | inr too ↦ once i j x old too
  ]
]
alone_once p (Wrote at (suc (suc zero)) value) once h i j x a b = once i j x (sym (value_page p at value i) ∙ a) (sym (value_page p at value j) ∙ b)
alone_once p (Wrote at (suc (suc (suc n))) words) once h i j x a b = absurd h
alone_once p (Shown byte) once h i j x a b = absurd h

-- all of them
pub all_once : (p : Pack) (events : List Event) → CarriedOnce p → AllAlone p events → Throughout CarriedOnce p events
all_once p [] once h = once
all_once p (e ∷ events) once h = (once, all_once (after p (e ∷ [])) events (alone_once p e once h.0) h.1)

-- two parts
pub alone_join : (p : Pack) (a b : List Event) → AllAlone p a → AllAlone (after p a) b → AllAlone p (a ++ b)
alone_join p [] b h g = g
alone_join p (e ∷ a) b h g = (h.0, alone_join (after p (e ∷ [])) a b h.1 g)

-- ---- sector commands
-- values
pub values_alone : (vs : List (ℕ × List ℕ)) (p : Pack) → AllAlone p (values_writes vs)
values_alone [] p = tt
values_alone (v ∷ vs) p = (tt, values_alone vs (after p (Wrote v.0 2 v.1 ∷ [])))

-- another label
pub relabel_alone : (p : Pack) (at : ℕ) (label value : List ℕ) → NamesAlone p at label → AllAlone p (relabel_writes at label value)
relabel_alone p at label value h = (h, (tt, tt))

-- a claim
pub claim_alone : (p : Pack) (at : ℕ) (label value : List ℕ) → NamesAlone p at label → AllAlone p (claim_writes at label value)
claim_alone p at label value h = (tt, relabel_alone (after p (Wrote at 2 value ∷ [])) at label value (λ x e i is. h x e i (sym (value_page p at value i) ∙ is)))

-- releases
pub releases_alone : (ats : List ℕ) (p : Pack) → AllAlone p (releases_writes ats)
releases_alone [] p = tt
releases_alone (at ∷ ats) p = (λ x e i is. absurd (ones_not x e), (tt, releases_alone ats (after p (Wrote at 1 (ones 8) ∷ Wrote at 2 (ones 256) ∷ []))))
