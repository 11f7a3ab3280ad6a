-- Record writes in lockstep with moves of a model.
-- How record writes are tied to what they mean is this project's choice.
use Rattle.std.specs.Prelude.{◌≡◌, ℕ, List, [], ◌∷◌, Result, OnOk}
use Rattle.disk_records.specs.declared.records.Event.{Event}
use Rattle.disk_records.specs.declared.records.Event.TheVariants.{Wrote}
use Rattle.disk_records.specs.Packs.{Pack, after}

-- What moves mean: the effect of a move on the model, the model that a pack is read as, what it is for a pack to stand for a
-- model, and which record write on a pack makes a move.
pub record Meaning (M O : Type 0) : Type 1 where
  pub step : M → O → M
  pub read : Pack → M
  pub Stands : M → Pack → Type 0
  pub Makes : Pack → Event → O → Type 0

-- the model after these moves
abbrev pub steps : {M O : Type 0} → Meaning M O → M → List O → M
steps means m [] = m
steps means m (o ∷ ops) = steps means (means.step m o) ops

-- Each event is a record write and makes one move. Before each write and after the last the pack stands for the model there.
pub data Obeys {M O : Type 0} (means : Meaning M O) : M → Pack → List Event → List O → Type 0 where
  rest : {m : M} {p : Pack} → means.Stands m p → Obeys means m p [] []
  write : {m : M} {p : Pack} {at part : ℕ} {words : List ℕ} {events : List Event} {o : O} {ops : List O} → means.Stands m p → means.Makes p (Wrote at part words) o → Obeys means (means.step m o) (after p (Wrote at part words ∷ [])) events ops → Obeys means m p (Wrote at part words ∷ events) (o ∷ ops)

-- a prefix
abbrev pub IsStartOf : {X : Type 0} → List X → List X → Type 0
IsStartOf [] wanted = Unit {0}
IsStartOf (x ∷ xs) [] = ⊥
IsStartOf (x ∷ xs) (w ∷ wanted) = (x ≡ w) × IsStartOf xs wanted

-- A call on the pack p that is to make the moves that are wanted: all of them at Ok, and for every answer a prefix of them. Of moves
-- that any record write makes it says only how many there are: their sectors and words are left to the call's other clauses.
pub record Does {M O T E : Type 0} (means : Meaning M O) (p : Pack) (events : List Event) (wanted : List O) (result : Result T E) : Type 0 where
  pub ops : List O
  pub start : IsStartOf ops wanted
  pub each : Obeys means (means.read p) p events ops
  pub all : OnOk result (ops ≡ wanted)
  pub ends : OnOk result (means.read (after p events) ≡ steps means (means.read p) wanted)
