-- What a caller sees of an entry that leaves, and of the end of a drop.
use Rattle.std.specs.Prelude.{◌≡◌, ◌⊎◌, ℕ, ◌+◌, ◌*◌, ◌<◌, ◌≤◌, true, false, List, [], length, Option, Some, IfSome, Result, OnOk, IsErrOf}
use Rattle.alto_words.specs.Fid.{is_system}
use Rattle.alto_words.specs.Names.{is_same_name}
use Rattle.alto_words.specs.declared.fid.Fid.{Fid}
use Rattle.alto_words.specs.declared.wanted.Wanted.TheVariants.{Exact}
use Rattle.disk_records.specs.Commands.{value_writes}
use Rattle.disk_records.specs.Events.{IsFirstOf}
use Rattle.disk_records.specs.Packs.{Pack}
use Rattle.disk_records.specs.Tapes.{Taped, added}
use Rattle.disk_records.specs.declared.records.Event.{Event}
use Rattle.hint_cache.specs.Caches.{Cached}
use Rattle.laws_call.specs.Writing.{entry_freed}
use Rattle.laws_operation.specs.DirectoryWords.{HasEntry}
use Rattle.laws_operation.specs.FreeLaws.{SameFree}
use Rattle.laws_operation.specs.LifeLaws.{SlotFreed}
use Rattle.laws_operation.specs.LinkLaws.{KeepsLinks}
use Rattle.page_seeking.specs.Seeking.{Refused, file_length}
use Rattle.pack_model.specs.hints.Links.{dir_slots}
use Rattle.pack_model.specs.operations.Committing.{page_of_byte}
use Rattle.pack_model.specs.operations.Step.Operation.{leave}
use Rattle.pack_model.specs.operations.Step.{Operation}
use Rattle.pack_model.specs.reading.Lookup.{EntryAt, entry_at}
use Rattle.pack_model.specs.reading.Slots.{Item, all_words}
use Rattle.directory.specs.declared.errors.DirError.{DirError}
use Rattle.directory.specs.Errors.{out_of_memory}

abbrev pub to_leave : Fid → List ℕ → Operation
to_leave d name = leave d name

-- ---- the entry of a name
-- the first one under it, in whatever case of its letters
abbrev pub entry_named : Pack → Fid → List ℕ → Option EntryAt
entry_named p d name = entry_at (Exact name) (dir_slots p d)

-- that of a system file has to stay
abbrev pub IsOrdinaryEntry : Pack → Fid → List ℕ → Type 0
IsOrdinaryEntry p d name = IfSome (entry_named p d name) (λ e. is_system e.fid ≡ false)

-- It is this one, after the slots a and before the slots b, and the first word of its slot is in this sector.
pub record IsEntryNamed (p : Pack) (d : Fid) (name : List ℕ) (at : ℕ) (a b : List Item) (e : EntryAt) : Type 0 where
  pub first : entry_named p d name ≡ Some e
  pub same : is_same_name e.name name ≡ true
  pub place : all_words a ≡ e.place
  pub entry : HasEntry p d at a b e.fid e.name

-- ---- its slot
-- A call began to write: for every answer a prefix of these record writes was done, and at Ok all. It is out of memory only if fewer events
-- were kept ready.
pub record Wrote {T : Type 0} (writes : List Event) (old new : Taped) (result : Result T DirError) : Type 0 where
  pub some : IsFirstOf writes (added old new)
  pub all : OnOk result (added old new ≡ writes)
  pub out_of_memory : IsErrOf result out_of_memory → old.spare < length writes

-- It wrote nothing, and is neither Ok nor out of memory.
pub record IsUnwritten {T : Type 0} (old new : Taped) (result : Result T DirError) : Type 0 where
  pub silent : added old new ≡ []
  pub undone : OnOk result ⊥
  pub other : IsErrOf result out_of_memory → ⊥

-- For every answer: nothing was written; or the value was to be written in which the slot of the entry of this name is a free one.
pub data FreesSlot {T : Type 0} (p : Pack) (d : Fid) (name : List ℕ) (old new : Taped) (result : Result T DirError) : Type 0 where
  unfreed : IsUnwritten old new result → FreesSlot p d name old new result
  freed : {at : ℕ} {a b : List Item} {e : EntryAt} → IsEntryNamed p d name at a b e → Wrote (value_writes at (entry_freed p at a e.fid e.name)) old new result → FreesSlot p d name old new result

-- ---- that of a file that was dropped
-- the first entry of the name, if there is one, is this file's
abbrev pub IsEntryOf : Pack → Fid → List ℕ → Fid → Type 0
IsEntryOf p d name f = IfSome (entry_named p d name) (λ e. e.fid ≡ f)

-- The end of a drop: at each crash point the pack is read as before, and afterwards it is whole and tidy. DiskDescriptor stays, and what a
-- session keeps of it fits. Links that were true are true again, and the same sectors are free.
pub record ActsOnSlot (p : Pack) (writes : List Event) : Type 0 where
  pub slot : SlotFreed p writes
  pub links : KeepsLinks p writes
  pub free : SameFree p writes

-- For every answer: nothing was written; or record writes were to be made that are the end of a drop.
pub data EndsDrop {T : Type 0} (p : Pack) (old new : Taped) (result : Result T DirError) : Type 0 where
  unended : IsUnwritten old new result → EndsDrop p old new result
  ending : {writes : List Event} → ActsOnSlot p writes → Wrote writes old new result → EndsDrop p old new result

-- ---- few sector commands
-- two for each data page and four more, unless a note was refused
abbrev pub IsQuickTwice : Pack → Fid → ℕ → Cached → Cached → Taped → Taped → Type 0
IsQuickTwice p d more before now old new = (new.runs ≤ old.runs + (2 * page_of_byte (file_length p d) + more)) ⊎ Refused before now
