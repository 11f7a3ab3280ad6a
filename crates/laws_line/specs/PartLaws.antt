-- What holds of the pack at each crash of some events: of first ones of them, of more after them, and crash by crash. And moves whose cuts
-- are viewed as their models and can be scavenged.
use Rattle.std.specs.Prelude.{List, ℕ, ◌++◌, ◌∷◌, ◌↔◌, ◌≡◌}
use Rattle.disk_records.specs.Events.{IsFirstOf}
use Rattle.disk_records.specs.Packs.{Pack, after, crash}
use Rattle.disk_records.specs.declared.records.Event.{Event}
use Rattle.pack_model.specs.operations.Committing.{line_moves, moves_of, moves_of_all, serial_moves}
use Rattle.pack_model.specs.sessions.Meanings.{Mendable, operating, reading, session, viewing}
use Rattle.pack_model.specs.reading.Model.{Model}
use Rattle.pack_model.specs.sessions.Moves.{Obeys, steps}
use Rattle.pack_model.specs.operations.Operations.{Move}
use Rattle.pack_model.specs.scavenger.Scavenging.{Throughout}
use Rattle.pack_model.specs.operations.Step.{Operation, step}
use Rattle.laws_line.specs.Ready.{steps_of}

-- ---- a property of packs
-- What holds at each crash of some events holds at each crash of first ones of them, as where a call was broken off; and from these on at
-- each crash of the others.
pub record CrashesOfParts (P : Pack → Type 0) : Type 0 where
  pub first : (p : Pack) (a b : List Event) → Throughout P p (a ++ b) → Throughout P p a
  pub broken : (p : Pack) (wanted events : List Event) → IsFirstOf wanted events → Throughout P p wanted → Throughout P p events
  pub later : (p : Pack) (a b : List Event) → Throughout P p (a ++ b) → Throughout P (after p a) b

-- what holds at each crash of some events, and from these on at each crash of others, holds at each crash of both
abbrev pub CrashesOfBothParts : (Pack → Type 0) → Type 0
CrashesOfBothParts P = (p : Pack) (a b : List Event) → Throughout P p a → Throughout P (after p a) b → Throughout P p (a ++ b)

-- throughout is at each crash, by its number of events
abbrev pub CrashByCrash : (Pack → Type 0) → Type 0
CrashByCrash P = (p : Pack) (events : List Event) → Throughout P p events ↔ ((k : ℕ) → P (crash p events k))

-- ---- moves
-- Record writes whose cuts are viewed as the models of their moves and can be scavenged are those of operations,
abbrev pub ViewedAndMendableOperates : Type 0
ViewedAndMendableOperates = (m : Model) (p : Pack) (events : List Event) (moves : List Move) → Obeys viewing m p events moves → Throughout Mendable p events → Obeys operating m p events moves

-- and those of a session.
abbrev pub ViewedAndMendableInSession : Type 0
ViewedAndMendableInSession = (m : Model) (p : Pack) (events : List Event) (moves : List Move) → Obeys viewing m p events moves → Throughout Mendable p events → Obeys session m p events moves

-- So what operates is in session.
abbrev pub OperationsAreInSession : Type 0
OperationsAreInSession = (m : Model) (p : Pack) (events : List Event) (moves : List Move) → Obeys operating m p events moves → Obeys session m p events moves

-- Record writes at each of whose crash points the pack is read as the model there, and can be scavenged, are those of operations.
abbrev pub ReadAndMendableOperates : Type 0
ReadAndMendableOperates = (m : Model) (p : Pack) (events : List Event) (moves : List Move) → Obeys reading m p events moves → Throughout Mendable p events → Obeys operating m p events moves

-- The moves of a line's operations are those of the first ones, the serial's and the operation's own of the next one on the model that they
-- leave, and those of the later ones.
abbrev pub MovesOfALineSplit : Type 0
MovesOfALineSplit = (m : Model) (ops : List Operation) (o : Operation) (more : List Operation)
    → moves_of_all m (ops ++ o ∷ more) ≡ moves_of_all m ops ++ ((serial_moves o ++ moves_of (steps_of m ops) o) ++ moves_of_all (step (steps_of m ops) o) more)

-- Whatever a crash stands for, the moves of a line lead to the model after its operations, from which the next line goes on.
pub record LeadsOn (mark : ℕ) (m : Model) (ops : List Operation) : Type 0 where
  pub in_views : steps viewing m (line_moves mark m ops) ≡ steps_of m ops
  pub in_operations : steps operating m (line_moves mark m ops) ≡ steps_of m ops
  pub in_session : steps session m (line_moves mark m ops) ≡ steps_of m ops

abbrev pub LineMovesLeadToTheModel : Type 0
LineMovesLeadToTheModel = (mark : ℕ) (m : Model) (ops : List Operation) → LeadsOn mark m ops
