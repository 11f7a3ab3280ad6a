-- What the record writes of a whole operation do to a whole and tidy pack.
use Rattle.std.specs.Prelude.{◌≡◌, ◌↔◌, List, take, ℕ}
use Rattle.laws_contents.specs.alto_words.specs.Fid.{disk_descriptor}
use Rattle.laws_contents.specs.disk_records.specs.Packs.{Pack, after, crash}
use Rattle.laws_contents.specs.disk_records.specs.declared.records.Event.{Event}
use Rattle.laws_contents.specs.disk_records.specs.declared.shape.Shape.{Shape}
use Rattle.laws_contents.specs.pack_model.specs.operations.Committing.{moves_of}
use Rattle.laws_contents.specs.pack_model.specs.sessions.Descriptor.{DescriptorFits}
use Rattle.laws_contents.specs.pack_model.specs.reading.Files.{file_bytes, place}
use Rattle.laws_contents.specs.pack_model.specs.sessions.Meanings.{Meets, Sees, Views, viewing}
use Rattle.laws_contents.specs.pack_model.specs.reading.Model.{read_as}
use Rattle.laws_contents.specs.pack_model.specs.sessions.Moves.{steps}
use Rattle.laws_contents.specs.pack_model.specs.operations.Operations.{Move}
use Rattle.laws_contents.specs.pack_model.specs.reading.Sights.{sights}
use Rattle.laws_contents.specs.pack_model.specs.states.Sound.{Clean}
use Rattle.laws_contents.specs.pack_model.specs.operations.Step.{Operation, step}

-- ---- DiskDescriptor stays
-- Its pages are borne by the same sectors, its bytes are the same, and so are the last serial and the mark.
pub record KeepsDescriptor (p q : Pack) : Type 0 where
  pub places : (n : ℕ) → place (sights q) disk_descriptor n ≡ place (sights p) disk_descriptor n
  pub bytes : file_bytes (sights q) disk_descriptor ≡ file_bytes (sights p) disk_descriptor
  pub clean : Clean p ↔ Clean q

-- and what a session keeps of it is so still, where the last serial stands
abbrev pub StillFits : Pack → Pack → Type 0
StillFits p q = (shape : Shape) (last mark : ℕ) (pages : List ℕ) → DescriptorFits p shape last mark pages → DescriptorFits q shape last mark pages

-- ---- views
-- each crash is viewed as the model after as many moves as it has record writes: the old one before the committing record, and the
-- stepped one from it on
abbrev pub CutsAreViewed : Pack → List Event → List Move → Type 0
CutsAreViewed p events moves = (k : ℕ) → Views (steps viewing (read_as p) (take k moves)) (crash p events k)

-- ---- operations
-- These record writes, in order, are the operation: each makes its move and each crash is read as the model there, so one of them
-- commits it and the others are quiet; afterwards the pack is read as the stepped model, and is whole and tidy again.
pub record CarriesOut (p : Pack) (events : List Event) (o : Operation) : Type 0 where
  pub meets : Meets p events (moves_of (read_as p) o)
  pub cuts : CutsAreViewed p events (moves_of (read_as p) o)
  pub ends : read_as (after p events) ≡ step (read_as p) o
  pub descriptor : KeepsDescriptor p (after p events)
  pub fits : StillFits p (after p events)

-- The same where a quiet record write changes what is read and not what is viewed.
pub record IsSeenAs (p : Pack) (events : List Event) (o : Operation) : Type 0 where
  pub sees : Sees p events (moves_of (read_as p) o)
  pub cuts : CutsAreViewed p events (moves_of (read_as p) o)
  pub ends : read_as (after p events) ≡ step (read_as p) o
  pub descriptor : KeepsDescriptor p (after p events)
  pub fits : StillFits p (after p events)
