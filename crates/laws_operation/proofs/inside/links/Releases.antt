-- Sectors that are released carry nothing, and all others stay.
use Rattle.std.proofs.Common.{List, None, Some, [], ap, inl, inr, length, refl, subst, suc, sym, ℕ, ◌<◌, ◌∙◌, ◌∷◌, ◌≡◌, ◌≢◌}
use Rattle.laws_contents.specs.alto_words.specs.declared.fid.Fid.{Fid}
use Rattle.laws_contents.specs.disk_records.specs.Commands.{ones, release_writes}
use Rattle.laws_contents.specs.disk_records.specs.Labels.{page_of}
use Rattle.laws_contents.specs.disk_records.specs.Packs.{Pack, after, carried, sector_at}
use Rattle.laws_contents.specs.disk_records.specs.declared.records.Event.TheVariants.{Wrote}
use Rattle.laws_contents.specs.disk_records.specs.declared.records.Page.{Page}
use Rattle.laws_contents.specs.pack_model.specs.operations.Commands.{releases_writes}
use Rattle.laws_contents.specs.pack_model.specs.operations.PageWords.{page_number}
use Rattle.laws_contents.specs.pack_model.specs.reading.Sights.{sights}
use Rattle.laws_contents.specs.pack_laws.proofs.Guarding.{carried_parts, here_written, value_page}
use Rattle.laws_contents.specs.pack_laws.proofs.Sighted.{length-sights}
use Rattle.laws_contents.specs.laws_record.proofs.Copying.{place_carried}
use Rattle.laws_contents.specs.laws_record.proofs.Recording.{carried_within}
use Rattle.laws_operation.proofs.Commanding.{ones_none, release_apart}
use Rattle.laws_operation.specs.ByteLaws.{Bear}
use Rattle.laws_operation.proofs.inside.links.Framing.{AllConcern, OfOne}
use Rattle.laws_operation.proofs.inside.links.Records.{carried_same, label_carried}
use Rattle.laws_operation.proofs.inside.links.Values.{of_carried}

-- ones name none
pub ones_not : (x : Page) → page_of (ones 8) ≡ Some x → ⊥
ones_not x e = let clash : None ≡ Some x = sym ones_none ∙ e in absurd cc

-- ---- one sector
-- it carries nothing once it is released
released_not : (p : Pack) (at : ℕ) (x : Page) → carried (after p (release_writes at)) at ≡ Some x → ⊥
released_not p at x is =
    let q : Pack = after p (Wrote at 1 (ones 8) ∷ []) in
    let labelled : carried q at ≡ Some x = sym (value_page q at (ones 256) at) ∙ is in
    elim (label_carried p at at (ones 8) x labelled) [
      | inl new ↦ ones_not x new.1
      | inr old ↦
          let l : at < length p.sectors = subst (λ n. at < n) (length-sights p) (carried_within p at x old) in
          ones_not x (sym (ap (λ s. page_of s.label) (here_written p at 1 (ones 8) l)) ∙ (carried_parts q at x labelled).1)
    ]

-- what carries a page then is another one
pub released_other : (p : Pack) (at i : ℕ) (x : Page) → carried (after p (release_writes at)) i ≡ Some x → i ≢ at
released_other p at i x is e = released_not p at x (ap (carried (after p (release_writes at))) (sym e) ∙ is)

-- ---- several
-- none of these
abbrev pub NoneOf : ℕ → List ℕ → Type 0
NoneOf i [] = Unit {0}
NoneOf i (at ∷ ats) = (i ≢ at) × NoneOf i ats

-- other sectors stay
pub releases_apart : (ats : List ℕ) (p : Pack) (i : ℕ) → NoneOf i ats → sector_at (after p (releases_writes ats)) i ≡ sector_at p i
releases_apart [] p i h = refl
releases_apart (at ∷ ats) p i h = releases_apart ats (after p (release_writes at)) i h.1 ∙ release_apart p at i h.0

-- what carries a page then is none of them
pub releases_none : (ats : List ℕ) (p : Pack) (i : ℕ) (x : Page) → carried (after p (releases_writes ats)) i ≡ Some x → NoneOf i ats
releases_none [] p i x is = tt
releases_none (at ∷ ats) p i x is =
    let p1 : Pack = after p (release_writes at) in
    let rest = releases_none ats p1 i x is in
    (released_other p at i x (sym (carried_same p1 (after p1 (releases_writes ats)) i refl (releases_apart ats p1 i rest)) ∙ is), rest)

-- so it is as it was
pub releases_same : (ats : List ℕ) (p : Pack) (i : ℕ) (x : Page) → carried (after p (releases_writes ats)) i ≡ Some x → sector_at (after p (releases_writes ats)) i ≡ sector_at p i
releases_same ats p i x is = releases_apart ats p i (releases_none ats p i x is)

-- ---- releases of one file's sectors
abbrev pub EachOf : Fid → Pack → List ℕ → Type 0
EachOf f p [] = Unit {0}
EachOf f p (at ∷ ats) = OfOne f p at × EachOf f p ats

-- sectors that bear its pages are of it
pub bear_of : (p : Pack) (f : Fid) (n : ℕ) (ats : List ℕ) → Bear (sights p) f n ats → EachOf f p ats
bear_of p f n [] h = tt
bear_of p f n (at ∷ ats) h = (of_carried f n p at (place_carried p (page_number f n) at h.0), bear_of p f (suc n) ats h.1)

-- also once one is released
each_still : (f : Fid) (ats : List ℕ) (p : Pack) (at : ℕ) → EachOf f p ats → EachOf f (after p (release_writes at)) ats
each_still f [] p at h = tt
each_still f (i ∷ ats) p at h =
    (λ x is. h.0 x (sym (carried_same p (after p (release_writes at)) i refl (release_apart p at i (released_other p at i x is))) ∙ is), each_still f ats p at h.1)

-- they concern it
pub releases_concern : (f : Fid) (ats : List ℕ) (p : Pack) → EachOf f p ats → AllConcern f p (releases_writes ats)
releases_concern f [] p h = tt
releases_concern f (at ∷ ats) p h =
    ((h.0, λ x e. absurd (ones_not x e)), (still, releases_concern f ats (after p (release_writes at)) (each_still f ats p at h.1)))
  where
    still : OfOne f (after p (Wrote at 1 (ones 8) ∷ [])) at
    still x is = elim (label_carried p at at (ones 8) x is) [ inl new ↦ absurd (ones_not x new.1) | inr old ↦ h.0 x old ]
