-- Calls that are a line from a sound pack, once the mark is open.
use Rattle.std.specs.Prelude.{List, OnOk, Result, Some, length, ℕ, ◌++◌, ◌<◌, ◌≡◌, ◌≤◌}
use Rattle.laws_hint.specs.alto_words.specs.Fid.{disk_descriptor}
use Rattle.laws_hint.specs.disk_records.specs.Events.{IsFirstOf}
use Rattle.laws_hint.specs.disk_records.specs.Packs.{Pack, after}
use Rattle.laws_hint.specs.disk_records.specs.declared.records.Event.{Event}
use Rattle.laws_hint.specs.pack_model.specs.operations.Committing.{pages_for_operations}
use Rattle.laws_hint.specs.pack_model.specs.operations.Step.{Operation}
use Rattle.laws_hint.specs.pack_model.specs.reading.Files.{place}
use Rattle.laws_hint.specs.pack_model.specs.reading.Model.{read_as}
use Rattle.laws_hint.specs.pack_model.specs.reading.Sights.{sights}
use Rattle.laws_hint.specs.pack_model.specs.states.InUse.{free_sector_count}
use Rattle.laws_hint.specs.pack_model.specs.states.Sound.{Sound}
use Rattle.laws_call.specs.Going.{Goes}
use Rattle.laws_hint.specs.LineLinks.{opening_writes}
use Rattle.laws_hint.specs.laws_line.specs.SoundLines.{IsKindOfLine, LineOnSound}
use Rattle.laws_hint.specs.laws_line.specs.SoundParts.{BreaksOnSound}

-- The operations of a line of the operating system, and the sectors that it needs, on a sound pack.
pub record LineFits (p : Pack) (at : ℕ) (ops : List Operation) : Type 0 where
  pub sound : Sound p
  pub placed : place (sights p) disk_descriptor 1 ≡ Some at
  pub some : 0 < length ops
  pub line : IsKindOfLine (read_as p) ops
  pub room : pages_for_operations (read_as p) ops ≤ free_sector_count (sights p)

-- Where the mark isn't opened to its end, and where calls on the pack with the open mark do the operations: for every answer the record
-- writes are those of a line that broke off or is done; at Ok they are all of the line's.
pub record CallsOnSound (T E : Type 0) (p : Pack) (at : ℕ) (ops : List Operation) : Type 0 where
  pub opening_breaks : (wrote : List Event) → IsFirstOf (opening_writes p at) wrote → BreaksOnSound p wrote ops
  pub breaks : (events : List Event) (result : Result T E) → Goes (after p (opening_writes p at)) ops events result → BreaksOnSound p (opening_writes p at ++ events) ops
  pub done : (events : List Event) (result : Result T E) → Goes (after p (opening_writes p at)) ops events result → OnOk result (LineOnSound p (opening_writes p at ++ events) ops)

abbrev pub CallsOnASoundPack : Type 0 → Type 0 → Type 0
CallsOnASoundPack T E = (p : Pack) (at : ℕ) (ops : List Operation) → LineFits p at ops → CallsOnSound T E p at ops
