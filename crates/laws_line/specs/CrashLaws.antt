-- Every cut of a line can be scavenged, and is clean only where it is sound.
use Rattle.std.specs.Prelude.{List, Some, [], length, ℕ, ◌++◌, ◌<◌, ◌∷◌, ◌≡◌, ◌≤◌}
use Rattle.disk_records.specs.declared.records.Event.{Event}
use Rattle.disk_records.specs.Packs.{Pack, after, sector_at}
use Rattle.laws_room.specs.alto_words.specs.Fid.{disk_descriptor}
use Rattle.laws_room.specs.alto_words.specs.declared.fid.Fid.{Fid}
use Rattle.pack_model.specs.operations.Committing.{line_moves, moves_of, moves_of_all, serial_moves}
use Rattle.pack_model.specs.sessions.Descriptor.{open_writes, serial_writes}
use Rattle.pack_model.specs.operations.Entering.{entry_value, values_first}
use Rattle.pack_model.specs.reading.Files.{place}
use Rattle.pack_model.specs.sessions.Meanings.{Mendable, viewing}
use Rattle.pack_model.specs.reading.Model.{read_as}
use Rattle.pack_model.specs.sessions.Moves.{Obeys}
use Rattle.pack_model.specs.operations.Operations.{Move, enter_writes}
use Rattle.pack_model.specs.scavenger.Scavenging.{Throughout, Unmarked}
use Rattle.pack_model.specs.reading.Sights.{sights}
use Rattle.pack_model.specs.reading.Slots.{Item}
use Rattle.pack_model.specs.states.Sound.{Sound, mark_of, mark_open}
use Rattle.pack_model.specs.operations.Step.{Operation, step}
use Rattle.pack_model.specs.operations.Step.Operation.{enter, make}
use Rattle.pack_model.specs.states.Whole.{Tidy, Whole}
use Rattle.laws_line.specs.Ready.{Ready, ReadyThroughout, steps_of}
use Rattle.laws_room.specs.laws_operation.specs.NameLaws.{MayEnterAt, entry_room}
use Rattle.laws_room.specs.laws_operation.specs.Outcomes.{CarriesOut}
use Rattle.laws_line.specs.SystemLaws.{LeavesSystem}

-- ---- the mark
-- where it is open, the pack is unmarked
abbrev pub OpenPackIsUnmarked : Type 0
OpenPackIsUnmarked = (p : Pack) → Whole p → mark_of (sights p) ≡ mark_open → Unmarked p

-- ---- one operation
-- These record writes are the operation on a pack whose mark is open: each makes its move, and each crash point is viewed as the model
-- there; where the models before and after it are ready, each crash point can be scavenged and none is clean; and so it is for the pack
-- after them.
pub record StaysMendable (p : Pack) (events : List Event) (o : Operation) : Type 0 where
  pub obeys : Obeys viewing (read_as p) p events (moves_of (read_as p) o)
  pub cuts : Unmarked p → Ready (read_as p) → Ready (step (read_as p) o) → Throughout Mendable p events
  pub unmarked : Unmarked p → Unmarked (after p events)
  pub reads : read_as (after p events) ≡ step (read_as p) o
  pub whole : Whole (after p events)
  pub tidy : Tidy (after p events)

-- so it is wherever the record writes carry out the operation and leave the system files alone
abbrev pub CrashesOfAnOperation : Type 0
CrashesOfAnOperation = (p : Pack) (events : List Event) (o : Operation) → Whole p → CarriesOut p events o → LeavesSystem p events → StaysMendable p events o

-- so it is of an entering, in which a record write may join free slots
abbrev pub CrashesOfEnter : Type 0
CrashesOfEnter = (p : Pack) (d : Fid) (name : List ℕ) (f : Fid) (a old b : List Item) (left : ℕ) (words : List ℕ) (at next_at : ℕ) → Whole p → Tidy p → MayEnterAt p d name f a old b left words at next_at
    → StaysMendable p (enter_writes (values_first p (entry_room a old at next_at) words) at (entry_value p (entry_room a old at next_at) words)) (enter d name f)

-- ---- a line
-- the pack after a new serial
abbrev pub with_serial : Pack → ℕ → ℕ → Pack
with_serial p at last = after p (serial_writes at last (sector_at p at).value)

-- Such operations, one after another, each on the pack that the ones before it leave; and right before a make its new serial.
pub data Batch : Pack → List Event → List Operation → Type 0 where
  over : {p : Pack} → Batch p [] []
  does : {p : Pack} {events later : List Event} {o : Operation} {ops : List Operation} → serial_moves o ≡ [] → StaysMendable p events o → Batch (after p events) later ops → Batch p (events ++ later) (o ∷ ops)
  makes : {p : Pack} {at last : ℕ} {events later : List Event} {f : Fid} {name : List ℕ} {moment : ℕ} {ops : List Operation} → place (sights p) disk_descriptor 1 ≡ Some at → (read_as p).last ≤ last
      → StaysMendable (with_serial p at last) events (make f name moment) → Batch (after (with_serial p at last) events) later ops → Batch p (serial_writes at last (sector_at p at).value ++ (events ++ later)) (make f name moment ∷ ops)

-- a line and then another one on the pack that it leaves are one line
abbrev pub LinesJoin : Type 0
LinesJoin = (p : Pack) (a b : List Event) (ops more : List Operation) → Batch p a ops → Batch (after p a) b more → Batch p (a ++ b) (ops ++ more)

-- Its record writes make these moves, and each crash point is viewed as the model there; where the models of its operations are ready, each
-- can be scavenged, and is clean only where it is sound. The pack that it leaves is whole, tidy and unmarked, and is read as the model
-- after them.
pub record LineStays (p : Pack) (events : List Event) (ops : List Operation) (moves : List Move) : Type 0 where
  pub obeys : Obeys viewing (read_as p) p events moves
  pub cuts : ReadyThroughout (read_as p) ops → Throughout Mendable p events
  pub unmarked : Unmarked (after p events)
  pub whole : Whole (after p events)
  pub tidy : Tidy (after p events)
  pub reads : read_as (after p events) ≡ steps_of (read_as p) ops

-- so it is for a line on an unmarked pack
abbrev pub CrashesOfAnUnmarkedLine : Type 0
CrashesOfAnUnmarkedLine = (p : Pack) (events : List Event) (ops : List Operation) → Whole p → Tidy p → Unmarked p → Batch p events ops → LineStays p events ops (moves_of_all (read_as p) ops)

-- and from a sound pack, for the opening of the mark and then a line with some operations
abbrev pub CrashesOfALine : Type 0
CrashesOfALine = (p : Pack) (at : ℕ) (events : List Event) (ops : List Operation) → Sound p → place (sights p) disk_descriptor 1 ≡ Some at → 0 < length ops
    → Batch (after p (open_writes (mark_of (sights p)) at (sector_at p at).value)) events ops
    → LineStays p (open_writes (mark_of (sights p)) at (sector_at p at).value ++ events) ops (line_moves (mark_of (sights p)) (read_as p) ops)
