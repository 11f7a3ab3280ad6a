-- Packs that carry out operations: what each crash point stands for.
-- What a cut has to stand for is this project's choice.
use Rattle.std.specs.Prelude.{◌≡◌, List}
use Rattle.disk_records.specs.declared.records.Event.{Event}
use Rattle.disk_records.specs.Packs.{Pack, after}
use Rattle.disk_records.specs.alto_words.specs.declared.fid.Fid.{Fid}
use Rattle.pack_model.specs.reading.Sights.{sights}
use Rattle.pack_model.specs.reading.Model.{Model, read_as}
use Rattle.pack_model.specs.showing.View.{view}
use Rattle.pack_model.specs.showing.Settling.{settle, show}
use Rattle.pack_model.specs.states.Whole.{Whole, Tidy, TidyBut, Headless}
use Rattle.pack_model.specs.states.Sound.{Sound, Clean}
use Rattle.pack_model.specs.scavenger.Scavenging.{Scavengeable}
use Rattle.pack_model.specs.sessions.Moves.{Meaning, Obeys, steps}
use Rattle.pack_model.specs.operations.Operations.{Move, moved}
use Rattle.pack_model.specs.operations.Committing.{MakesMove}

-- ---- what a pack stands for
-- it is read as the model
abbrev pub IsReadAs : Model → Pack → Type 0
IsReadAs m p = read_as p ≡ m

-- it is viewed as the model
abbrev pub Views : Model → Pack → Type 0
Views m p = view (read_as p) ≡ view m

-- it shows what the model shows once its nameless files have names
abbrev pub Shows : Model → Pack → Type 0
Shows m p = show p ≡ settle (view m)

-- the Scavenger takes it, and it is clean only where it is sound
pub record Mendable (p : Pack) : Type 0 where
  pub scavengeable : Scavengeable p
  pub clean_is_sound : Clean p → Sound p

-- At each crash point of an operation in a session: it is viewed as the model, and mendable.
pub record OperationCut (m : Model) (p : Pack) : Type 0 where
  pub views : Views m p
  pub mendable : Mendable p

-- At each crash point of a whole session, also within a scavenge: it shows what the model shows, and is mendable.
pub record SessionCut (m : Model) (p : Pack) : Type 0 where
  pub shows : Shows m p
  pub mendable : Mendable p

-- ---- moves with these meanings
abbrev pub meaning : (Model → Pack → Type 0) → Meaning Model Move
meaning stands = record { step = moved; read = read_as; Stands = stands; Makes = MakesMove }

-- at each crash point the pack is read as the model there
abbrev pub reading : Meaning Model Move
reading = meaning IsReadAs

-- at each crash point the pack is viewed as the model there
abbrev pub viewing : Meaning Model Move
viewing = meaning Views

-- at each crash point the pack shows what the model there shows
abbrev pub showing : Meaning Model Move
showing = meaning Shows

-- at each crash point the pack is viewed as the model there, and mendable
abbrev pub operating : Meaning Model Move
operating = meaning OperationCut

-- at each crash point the pack shows what the model there shows, and is mendable
abbrev pub session : Meaning Model Move
session = meaning SessionCut

-- ---- what the record writes of a whole operation do to a whole and tidy pack
-- They make these moves; each crash point is read as the model there; the pack is whole and tidy again.
pub record Meets (p : Pack) (events : List Event) (moves : List Move) : Type 0 where
  pub obeys : Obeys reading (read_as p) p events moves
  pub whole : Whole (after p events)
  pub tidy : Tidy (after p events)

-- The same where a quiet write may change what isn't viewed, as the joining of free slots; at the end the pack is read as the
-- model there.
pub record Sees (p : Pack) (events : List Event) (moves : List Move) : Type 0 where
  pub obeys : Obeys viewing (read_as p) p events moves
  pub ends : read_as (after p events) ≡ steps viewing (read_as p) moves
  pub whole : Whole (after p events)
  pub tidy : Tidy (after p events)

-- The record writes of a drop except its last one: the file is gone, and its entry's slot is left.
pub record Drops (p : Pack) (f : Fid) (events : List Event) (moves : List Move) : Type 0 where
  pub obeys : Obeys reading (read_as p) p events moves
  pub whole : Whole (after p events)
  pub gone : Headless (sights (after p events)) f
  pub tidy_but : TidyBut f (sights (after p events))
