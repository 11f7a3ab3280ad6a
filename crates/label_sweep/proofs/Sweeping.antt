-- A sweep, sector by sector.
use Rattle.std.proofs.Common.{◌≡◌, ℕ, ◌+◌, ◌<◌, Bool, IsTrue, List, [], ◌∷◌, ◌++◌, length, take, refl, sym, ◌∙◌, ap, subst, arith}
use Rattle.std.specs.List.{FoldsTo}
use Rattle.std.proofs.lemmas.Fn.{FoldsTo-push}
use Rattle.std.proofs.lemmas.List.{length-append, take_more, take_all}
use Rattle.disk_records.specs.declared.records.Sector.{Sector}
use Rattle.disk_records.specs.declared.shape.Shape.{Shape}
use Rattle.disk_records.specs.Addresses.{pages_of}
use Rattle.disk_records.specs.Packs.{sector_at}
use Rattle.disk_records.specs.Tapes.{Taped, Looks, pack}
use Rattle.disk_records.proofs.Growing.{length-pack}
use Rattle.disk_records.proofs.Looking.{looks_pack}
use Rattle.pack_model.specs.reading.Files.{numbered}
use Rattle.pack_model.specs.reading.Sights.{Sight, sight, sights, sights_from}
use Rattle.pack_model.specs.reading.Sights.Sight.{hidden}
use Rattle.pack_laws.proofs.Sighted.{sights-get, length-sights}
use Rattle.label_sweep.specs.Swept.{HasSeen, Swept}
use Rattle.label_sweep.proofs.Visiting.{numbered-append}

-- the sectors below `at` were handed on
pub record SweptTo {V : Type 0} (told : Bool) (step : V → ℕ → Sight → V → Type 0) (t : Taped) (at : ℕ) (before after : V) : Type 0 where
  pub seen : List Sight
  pub count : 1 + length seen ≡ at
  pub shows : IsTrue told → hidden ∷ seen ≡ take at (sights (pack t))
  pub folds : FoldsTo (λ v e w. step v e.0 e.1 w) before (numbered 1 seen) after

-- sector 0 shows nothing
hidden_first : (shape : Shape) (sectors : List Sector) → 0 < length sectors → hidden ∷ [] ≡ take 1 (sights_from shape 0 sectors)
unfolding sight sights_from
hidden_first shape [] some = absurd (omega arith)
hidden_first shape (s ∷ sectors) some = refl

pub swept_none : {V : Type 0} (told : Bool) (step : V → ℕ → Sight → V → Type 0) (t : Taped) (v : V) → (IsTrue told → length t.base ≡ pages_of t.form) → SweptTo told step t 1 v v
swept_none told step t v sized = record {
  seen = [];
  count = omega arith;
  shows = λ h. let some = t.form.least_pages in hidden_first t.form (pack t).sectors (omega (arith, length-pack t, sized h, some));
  folds = refl;
}

-- one sector more
pub swept_more : {V : Type 0} {told : Bool} {step : V → ℕ → Sight → V → Type 0} {t now : Taped} {most : ℕ} (at : ℕ) (before v w : V) → Looks told most t now → at < pages_of t.form → (IsTrue told → length t.base ≡ pages_of t.form)
    → SweptTo told step t at before v → HasSeen told (sight now.form at (sector_at (pack now) at)) (λ s. step v at s w) → SweptTo told step t (at + 1) before w
swept_more {V} {told} {step} {t} {now} at before v w looks within sized so_far next =
    let more : numbered 1 (so_far.seen ++ next.seen ∷ []) ≡ numbered 1 so_far.seen ++ (at, next.seen) ∷ [] = numbered-append 1 so_far.seen next.seen ∙ ap (λ n. numbered 1 so_far.seen ++ (n, next.seen) ∷ []) so_far.count in
    record {
      seen = so_far.seen ++ next.seen ∷ [];
      count = omega (arith, so_far.count, length-append so_far.seen (next.seen ∷ []));
      shows = λ h.
          let inside : at < length (pack t).sectors = omega (arith, within, length-pack t, sized h) in
          let shown : next.seen ≡ sight t.form at (sector_at (pack t) at) =
          next.is h ∙ ap (λ shape. sight shape at (sector_at (pack now) at)) looks.alone.grown.form ∙ ap (λ p. sight t.form at (sector_at p at)) (looks_pack looks h) in
          (λ i. so_far.shows h i ++ shown i ∷ [])
          ∙ ap (λ s. take at (sights (pack t)) ++ s ∷ []) (sym (sights-get (pack t) at hidden inside))
          ∙ sym (take_more (sights (pack t)) at hidden (omega (arith, inside, length-sights (pack t))));
      folds = subst (λ l. FoldsTo (λ u e x. step u e.0 e.1 x) before l w) (sym more) (FoldsTo-push _ before (numbered 1 so_far.seen) v (at, next.seen) w so_far.folds next.step);
    }

-- all sectors
pub swept_all : {V : Type 0} {told : Bool} {step : V → ℕ → Sight → V → Type 0} {t : Taped} {at : ℕ} {before after : V} → at ≡ pages_of t.form → (IsTrue told → length t.base ≡ pages_of t.form) → SweptTo told step t at before after → Swept told step t before after
swept_all {t = t} {at = at} end sized swept = record {
  seen = swept.seen;
  count = swept.count ∙ end;
  shows = λ h. swept.shows h ∙ take_all at (sights (pack t)) (omega (arith, end, length-sights (pack t), length-pack t, sized h));
  folds = swept.folds;
}
