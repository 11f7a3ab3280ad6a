-- What a visitor has after all sectors, by what each of its steps does.
use Rattle.std.proofs.Common.{◌≡◌, ℕ, suc, ◌+◌, ◌<◌, ◌≤◌, Bool, IsTrue, List, [], ◌∷◌, ◌++◌, length, refl, sym, ap, ◌∙◌, subst, arith, append_assoc}
use Rattle.std.proofs.lemmas.List.{append-nil, length-append}
use Rattle.std.specs.List.{FoldsTo}
use Rattle.disk_records.specs.Addresses.{pages_of}
use Rattle.disk_records.specs.Tapes.{Taped, pack}
use Rattle.pack_model.specs.reading.Files.{numbered}
use Rattle.pack_model.specs.reading.Sights.{Sight, sights}
use Rattle.pack_model.specs.reading.Sights.Sight.{hidden}
use Rattle.label_sweep.specs.Swept.{Swept}

-- one sector more
pub numbered-append : {S : Type 0} (at : ℕ) (ss : List S) (s : S) → numbered at (ss ++ s ∷ []) ≡ numbered at ss ++ (at + length ss, s) ∷ []
numbered-append at [] s = let here : at ≡ at + 0 = omega arith in ap (λ n. (n, s) ∷ []) here
numbered-append at (x ∷ ss) s = let next : suc at + length ss ≡ at + suc (length ss) = omega arith in ap (λ l. (at, x) ∷ l) (numbered-append (suc at) ss s ∙ ap (λ n. numbered (suc at) ss ++ (n, s) ∷ []) next)

-- A fact about the visitor and the sectors so far that holds before sector 1 and that each step keeps holds of all sectors: `Holds` is
-- over what they show, sector 0 with them.
module _ {V : Type 0} {after : V} (step : V → ℕ → Sight → V → Type 0) (Holds : List Sight → V → Type 0) (keeps : (rs : List Sight) (u w : V) (s : Sight) → Holds rs u → step u (length rs) s w → Holds (rs ++ s ∷ []) w) where
  walk : (ss more : List Sight) (at : ℕ) (v : V) → at ≡ length ss → Holds ss v → FoldsTo (λ u e w. step u e.0 e.1 w) v (numbered at more) after → Holds (ss ++ more) after
  walk ss [] at v is holds folds = subst (λ l. Holds l after) (sym (append-nil ss)) (subst (Holds ss) folds holds)
  walk ss (s ∷ more) at v is holds folds =
      let next : suc at ≡ length (ss ++ s ∷ []) = omega (arith, is, length-append ss (s ∷ [])) in
      subst (λ l. Holds l after) (append_assoc ss (s ∷ []) more) (walk (ss ++ s ∷ []) more (suc at) folds.0 next (keeps ss v folds.0 s holds (subst (λ n. step v n s folds.0) is folds.1)) folds.2)

  pub kept_by_steps : {told : Bool} {t : Taped} {before : V} → Holds (hidden ∷ []) before → Swept told step t before after → IsTrue told → Holds (sights (pack t)) after
  kept_by_steps {before = before} first swept h = subst (λ ss. Holds ss after) (swept.shows h) (walk (hidden ∷ []) swept.seen 1 before refl first swept.folds)

-- The same of a fact that doesn't speak of what the sectors show, on every machine: each step is of a sector from 1 on.
module _ {V : Type 0} {after : V} (step : V → ℕ → Sight → V → Type 0) (end : ℕ) (Holds : V → Type 0) (keeps : (u w : V) (at : ℕ) (s : Sight) → 1 ≤ at → at < end → Holds u → step u at s w → Holds w) where
  go : (more : List Sight) (at : ℕ) (v : V) → 1 ≤ at → at + length more ≤ end → Holds v → FoldsTo (λ u e w. step u e.0 e.1 w) v (numbered at more) after → Holds after
  go [] at v some few holds folds = subst Holds folds holds
  go (s ∷ more) at v some few holds folds = go more (suc at) folds.0 (omega arith) (omega arith) (keeps v folds.0 at s some (omega arith) holds folds.1) folds.2

  pub kept_at_each : {told : Bool} {t : Taped} {before : V} → end ≡ pages_of t.form → Holds before → Swept told step t before after → Holds after
  kept_at_each {before = before} is first swept = let count = swept.count in go swept.seen 1 before (omega arith) (omega (arith, is, count)) first swept.folds
