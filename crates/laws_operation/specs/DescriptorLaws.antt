-- Opening the mark, a new serial, and closing: what they leave at every crash.
use Rattle.std.specs.Prelude.{All, Bool, List, Some, [], length, ℕ, ◌<◌, ◌∷◌, ◌≡◌, ◌≤◌}
use Rattle.laws_contents.specs.alto_words.specs.Fid.{disk_descriptor}
use Rattle.laws_contents.specs.disk_records.specs.Packs.{Pack, after, crash, sector_at}
use Rattle.laws_contents.specs.disk_records.specs.declared.records.Event.{Event}
use Rattle.laws_contents.specs.pack_model.specs.operations.Committing.{open_moves}
use Rattle.laws_contents.specs.pack_model.specs.sessions.Descriptor.{close_moves, close_writes, data_pages, open_writes, serial_writes}
use Rattle.laws_contents.specs.pack_model.specs.reading.Files.{place}
use Rattle.laws_contents.specs.pack_model.specs.sessions.Meanings.{reading, viewing}
use Rattle.laws_contents.specs.pack_model.specs.reading.Model.{read_as}
use Rattle.laws_contents.specs.pack_model.specs.sessions.Moves.{Obeys}
use Rattle.laws_contents.specs.pack_model.specs.operations.Operations.{Move}
use Rattle.laws_contents.specs.pack_model.specs.operations.Operations.Move.{quiet}
use Rattle.laws_contents.specs.pack_model.specs.reading.Sights.{sights}
use Rattle.laws_contents.specs.pack_model.specs.states.Sound.{Sound, mark_clean, mark_of, mark_open}
use Rattle.laws_contents.specs.pack_model.specs.operations.Step.{Operation}
use Rattle.laws_contents.specs.pack_model.specs.states.Whole.{Tidy, Whole}
use Rattle.laws_operation.specs.ByteLaws.{Bear}

-- ---- words of the first data page
-- All but DiskDescriptor is as before, and so are the sectors that bear its pages.
pub record KeepsSound (p q : Pack) : Type 0 where
  pub whole : Whole q
  pub tidy : Tidy q
  pub sound : Sound p → Sound q
  pub places : (n : ℕ) → place (sights q) disk_descriptor n ≡ place (sights p) disk_descriptor n

-- The mark is open after these record writes, so the pack isn't clean; each crash is read as before.
pub record OpensMark (p : Pack) (events : List Event) (moves : List Move) : Type 0 where
  pub obeys : Obeys reading (read_as p) p events moves
  pub keeps : KeepsSound p (after p events)
  pub marked : mark_of (sights (after p events)) ≡ mark_open

-- where the mark is open nothing is written; else it is the value of the first data page
abbrev pub OpenCarriesOut : Type 0
OpenCarriesOut = (p : Pack) (at : ℕ) (o : Operation) (ops : List Operation) → Whole p → Tidy p → place (sights p) disk_descriptor 1 ≡ Some at
    → OpensMark p (open_writes (mark_of (sights p)) at (sector_at p at).value) (open_moves (mark_of (sights p)) (o ∷ ops))

-- Each crash is viewed as before; read as a model the pack has the new last serial after the record write, and the mark that it had.
pub record GivesSerial (p : Pack) (last : ℕ) (events : List Event) : Type 0 where
  pub obeys : Obeys viewing (read_as p) p events (quiet ∷ [])
  pub reads : read_as (after p events) ≡ record (read_as p) { last = last }
  pub keeps : KeepsSound p (after p events)
  pub mark : mark_of (sights (after p events)) ≡ mark_of (sights p)

-- the value with the new serial
abbrev pub SerialCarriesOut : Type 0
SerialCarriesOut = (p : Pack) (at last : ℕ) → Whole p → Tidy p → place (sights p) disk_descriptor 1 ≡ Some at → (read_as p).last ≤ last → GivesSerial p last (serial_writes at last (sector_at p at).value)

-- ---- closing
-- The sectors of DiskDescriptor's data pages, all of them, each with a value of 256 words.
pub record MayClose (p : Pack) (pages : List ℕ) : Type 0 where
  pub pages_are : Bear (sights p) disk_descriptor 1 pages
  pub number : length pages ≡ data_pages p.shape
  pub sized : All (λ at. length (sector_at p at).value ≡ 256) pages

-- Each crash is read as before, and is whole, tidy, and sound where the pack was; the mark stays what it was until the last record
-- write, and is clean after it.
pub record Closes (p : Pack) (events : List Event) (moves : List Move) : Type 0 where
  pub obeys : Obeys reading (read_as p) p events moves
  pub keeps : (k : ℕ) → KeepsSound p (crash p events k)
  pub unclean : (k : ℕ) → k < length events → mark_of (sights (crash p events k)) ≡ mark_of (sights p)
  pub marked : mark_of (sights (after p events)) ≡ mark_clean

-- the data pages with this map, from the last to the first, and nothing where the mark is clean
abbrev pub CloseCarriesOut : Type 0
CloseCarriesOut = (p : Pack) (busy : List Bool) (pages : List ℕ) → Whole p → Tidy p → MayClose p pages → Closes p (close_writes (mark_of (sights p)) p.shape (read_as p).last busy pages) (close_moves (mark_of (sights p)) pages)
