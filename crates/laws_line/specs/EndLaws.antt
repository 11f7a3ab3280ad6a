-- Closing, and the end of a session: its last operations and then closing, on a sound pack.
use Rattle.std.specs.Prelude.{Bool, List, [], false, length, ℕ, ◌++◌, ◌<◌, ◌≡◌}
use Rattle.disk_records.specs.Packs.{Pack, after}
use Rattle.disk_records.specs.declared.records.Event.{Event}
use Rattle.pack_model.specs.operations.Operations.{Move}
use Rattle.pack_model.specs.operations.Step.{Operation}
use Rattle.pack_model.specs.reading.Model.{read_as}
use Rattle.pack_model.specs.reading.Sights.{sights}
use Rattle.pack_model.specs.scavenger.Scavenging.{Throughout}
use Rattle.pack_model.specs.sessions.Descriptor.{close_moves, close_writes, ending_moves}
use Rattle.pack_model.specs.sessions.Meanings.{Mendable, operating, session}
use Rattle.pack_model.specs.sessions.Moves.{Obeys}
use Rattle.pack_model.specs.states.Sound.{Clean, Sound, mark_of}
use Rattle.laws_line.specs.Ready.{steps_of}
use Rattle.laws_line.specs.SoundLines.{LineOnSound}
use Rattle.laws_room.specs.laws_operation.specs.DescriptorLaws.{MayClose}

-- Each crash point is viewed and shown as the model and can be scavenged; afterwards the pack is sound and clean, and is read as before.
pub record ClosesSound (q : Pack) (events : List Event) (moves : List Move) : Type 0 where
  pub cuts : Throughout Mendable q events
  pub operating : Obeys operating (read_as q) q events moves
  pub session : Obeys session (read_as q) q events moves
  pub sound : Sound (after q events)
  pub clean : Clean (after q events)
  pub reads : read_as (after q events) ≡ read_as q

-- so it is with any map, whether or not the mark is clean already
abbrev pub ClosingOfASoundPack : Type 0
ClosingOfASoundPack = (q : Pack) (busy : List Bool) (pages : List ℕ) → Sound q → MayClose q pages → ClosesSound q (close_writes (mark_of (sights q)) q.shape (read_as q).last busy pages) (close_moves (mark_of (sights q)) pages)

-- ---- the end of a session
-- its last operations, all done: none on a sound pack, or a line of some
pub data LastLine (p : Pack) : List Event → List Operation → Type 0 where
  idle : Sound p → LastLine p [] []
  busy : (events : List Event) (ops : List Operation) → 0 < length ops → LineOnSound p events ops → LastLine p events ops

-- Each crash point is viewed and shown as the model there and can be scavenged; the record writes make the moves of such an end, at a line
-- `quit` as at the end of the keys; afterwards the pack is sound and clean, and is read as the model after the last operations.
pub record EndsSession (p : Pack) (events : List Event) (ops : List Operation) : Type 0 where
  pub cuts : Throughout Mendable p events
  pub operating : Obeys operating (read_as p) p events (ending_moves false (mark_of (sights p)) (read_as p) ops)
  pub session : Obeys session (read_as p) p events (ending_moves false (mark_of (sights p)) (read_as p) ops)
  pub sound : Sound (after p events)
  pub clean : Clean (after p events)
  pub reads : read_as (after p events) ≡ steps_of (read_as p) ops

-- so it is with any map
abbrev pub EndingOnASoundPack : Type 0
EndingOnASoundPack = (p : Pack) (a : List Event) (ops : List Operation) (busy : List Bool) (pages : List ℕ) → LastLine p a ops → MayClose (after p a) pages
    → EndsSession p (a ++ close_writes (mark_of (sights (after p a))) (after p a).shape (read_as (after p a)).last busy pages) ops
