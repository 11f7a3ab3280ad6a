-- What is asked of a file that is dropped, and what its record writes do.
use Rattle.std.specs.Prelude.{IsErrOf, List, OnOk, Result, Some, [], false, ℕ, ◌∷◌, ◌≡◌}
use Rattle.alto_words.specs.Fid.{is_system}
use Rattle.alto_words.specs.declared.fid.Fid.{Fid}
use Rattle.disk_records.specs.Commands.{release_writes}
use Rattle.disk_records.specs.Events.{IsFirstOf}
use Rattle.disk_records.specs.Packs.{Pack, after, carried}
use Rattle.disk_records.specs.declared.records.Event.{Event}
use Rattle.laws_call.specs.Acting.{Around, IsQuiet}
use Rattle.laws_hint.specs.MapChanges.{MarksMap, marked}
use Rattle.laws_lookup.specs.DropLaws.{IsBare}
use Rattle.laws_lookup.specs.OtherLaws.{LeavesOthers}
use Rattle.laws_operation.specs.FreeLaws.{StayFree}
use Rattle.laws_operation.specs.LifeLaws.{GoesOut, MayDrop}
use Rattle.laws_operation.specs.LinkLaws.{KeepsLinks}
use Rattle.page_seeking.specs.Seeking.{page_number}
use Rattle.page_seeking.specs.declared.refs.FileError.TheVariants.{Memory}
use Rattle.page_seeking.specs.declared.refs.FileError.{FileError}
use Rattle.pack_model.specs.operations.Operations.{release_file_writes}
use Rattle.file_pages.specs.Releasing.{CommitsAndReleases}

-- The file isn't a system file, and has no entries of its own.
pub record MayBeDropped (p : Pack) (f : Fid) : Type 0 where
  pub no_system : is_system f ≡ false
  pub bare : IsBare p f

-- All record writes of a drop but its last one, the value in which the slot of the file's entry is a free one. They make their moves, and
-- each crash point is viewed as the model there; afterwards the pack is read as the step, it is whole, and tidy except for this slot.
-- DiskDescriptor stays, and what a session keeps of it fits. Links that were true are true again. The true map changes at the released
-- sectors alone, each free sector stays free, and all other files are as they were.
pub record ActsButSlot (p : Pack) (f : Fid) (released : List ℕ) (writes : List Event) : Type 0 where
  pub goes : GoesOut p f writes
  pub links : KeepsLinks p writes
  pub map : MarksMap p writes [] released
  pub free : StayFree p writes
  pub others : LeavesOthers f p (after p writes)

-- A call that is to do them, where the file's leader and its data pages are in these sectors: for every answer it made a prefix of them, at
-- Ok all.
pub record DropsButSlot (p : Pack) (f : Fid) (events : List Event) (result : Result (Unit {0}) FileError) : Type 0 where
  pub at : ℕ
  pub pages : List ℕ
  pub may : MayDrop p f at pages
  pub acts : ActsButSlot p f (at ∷ pages) (release_file_writes at pages)
  pub some : IsFirstOf (release_file_writes at pages) events
  pub all : OnOk result (events ≡ release_file_writes at pages)

-- For every answer: nothing was written or counted, and it is neither Ok nor out of memory; or the sector carries the file's leader, which
-- was to be released, and then these pages.
pub data Drops (p : Pack) (f : Fid) (pages : List ℕ) (old now : Around) (result : Result (Unit {0}) FileError) : Type 0 where
  undropped : IsQuiet old now → OnOk result ⊥ → (IsErrOf result Memory → ⊥) → Drops p f pages old now result
  dropping : {at : ℕ} → carried p at ≡ Some (page_number f 0) → CommitsAndReleases (release_writes at) pages old.tape now.tape old.tally now.tally result
      → OnOk result (now.bits ≡ marked false (at ∷ pages) old.bits) → Drops p f pages old now result
