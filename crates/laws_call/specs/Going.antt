-- Calls one after another as the operations of a line.
use Rattle.std.specs.Prelude.{List, OnOk, Result, ◌≡◌}
use Rattle.laws_hint.specs.disk_records.specs.Events.{IsFirstOf}
use Rattle.laws_hint.specs.disk_records.specs.Packs.{Pack}
use Rattle.laws_hint.specs.disk_records.specs.declared.records.Event.{Event}
use Rattle.laws_hint.specs.pack_model.specs.operations.Step.{Operation}
use Rattle.laws_hint.specs.pack_model.specs.sessions.Moves.{IsStartOf}
use Rattle.laws_hint.specs.laws_line.specs.CrashLaws.{Batch}

-- Calls on the pack p that are to do these operations. For every answer their record writes are a prefix of those of a prefix of the
-- operations, each make with its new serial; at Ok they are all of those of all.
pub record Goes {T E : Type 0} (p : Pack) (ops : List Operation) (events : List Event) (result : Result T E) : Type 0 where
  pub begun : List Operation
  pub start : IsStartOf begun ops
  pub writes : List Event
  pub line : Batch p writes begun
  pub some : IsFirstOf writes events
  pub all : OnOk result ((begun ≡ ops) × (events ≡ writes))
