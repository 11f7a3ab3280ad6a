-- Lines that need no disk: what is asked of a session for them, and what they leave.
-- How a line without a disk is stated as a turn is this project's choice.
use Rattle.std.specs.Prelude.{◌≡◌, ℕ, Vec, Result}
use Rattle.exec_words.specs.disk_records.specs.Tapes.{Taped}
use Rattle.exec_words.specs.disk_records.specs.declared.shape.Shape.{Shape}
use Rattle.exec_words.specs.declared.line.Line.{Line}
use Rattle.exec_session.specs.Meant.{IsTakenUpBy, TakesLine, kept}
use Rattle.exec_session.specs.declared.session.Session.{Session}
use Rattle.exec_session.specs.declared.stop.Stop.{Stop}
use Rattle.exec_session.specs.declared.stop.Stop.TheVariants.{Refused, Misled, DiskFault, Memory}
use Rattle.session_model.specs.Keeping.{Formed, world_of}
use Rattle.session_model.specs.world_model.specs.Levels.{IsAtLevel}

-- The memory is one of its level, and the line isn't refused by itself.
pub record MayTake (s : Session) (l : Line) : Type 0 where
  pub memory : IsAtLevel s.world.level s.world.memory
  pub taken_up : IsTakenUpBy (world_of (kept s)) l

-- the line is a turn of the session over each machine that is modelled, to which nothing happens
abbrev pub TakesAlone : {Z : Type 0} → Session → Session → Line → Result (Vec ℕ Z) Stop → Type 0
TakesAlone one two l result = (tape : Taped) → TakesLine tape tape one two l result

-- the session is well formed still, whatever the shape of its disk
abbrev pub StaysFormed : Session → Session → Type 0
StaysFormed one two = (form : Shape) → Formed form (kept one) → Formed form (kept two)

-- of what a session keeps its world alone may be another, or its moment
abbrev pub IsSameButWorld : Session → Session → Type 0
IsSameButWorld one two = two ≡ record one { world = two.world }

abbrev pub IsSameButMoment : Session → Session → Type 0
IsSameButMoment one two = two ≡ record one { moment = two.moment }

-- a refusal, or out of memory
abbrev pub IsRefusalOrMemory : Stop → Type 0
IsRefusalOrMemory (Refused r) = Unit {0}
IsRefusalOrMemory (Misled place at wanted found) = ⊥
IsRefusalOrMemory DiskFault = ⊥
IsRefusalOrMemory Memory = Unit {0}
