-- What a call that writes one value of a page says, whatever the file.
use Rattle.std.specs.Prelude.{IsErrOf, List, OnErr, OnOk, Result, Some, [], length, take, ℕ, ◌<◌, ◌≡◌}
use Rattle.alto_words.specs.declared.fid.Fid.{Fid}
use Rattle.disk_records.specs.Commands.{value_writes}
use Rattle.disk_records.specs.Events.{IsFirstOf}
use Rattle.disk_records.specs.Packs.{Pack, carried, sector_at}
use Rattle.disk_records.specs.Tapes.{added}
use Rattle.hint_cache.specs.Caches.{Cached}
use Rattle.laws_call.specs.Acting.{Around, IsQuiet}
use Rattle.page_seeking.specs.Seeking.{IsLast, all_listed, page_number}
use Rattle.page_seeking.specs.declared.ends.LastPage.{LastPage}
use Rattle.page_seeking.specs.declared.refs.FileError.TheVariants.{DiskFault, Memory}
use Rattle.page_seeking.specs.declared.refs.FileError.{FileError}
use Rattle.pack_model.specs.hints.Handy.{HandyCache}
use Rattle.pack_model.specs.hints.Links.{LinksTrue}
use Rattle.pack_model.specs.operations.Operations.{one_move}
use Rattle.pack_model.specs.operations.PageWords.{stamped_value, titled_value}
use Rattle.pack_model.specs.operations.Step.Operation.{stamp, title}
use Rattle.pack_model.specs.operations.Step.{Operation}
use Rattle.pack_model.specs.reading.Sights.{sights}
use Rattle.pack_model.specs.sessions.Tallies.{CountsMoves}
use Rattle.pack_model.specs.states.Whole.{Whole}

-- ---- one value of a page
-- A call was to write this value into this sector, and to count it as this operation. For every answer it wrote it whole or nothing, and
-- the tally counts the operation if it did; at Ok it did, and at an error only after a fault. Out of memory comes only if no event was
-- kept ready.
pub record WroteValue {T : Type 0} (at : ℕ) (value : List ℕ) (o : Operation) (old new : Around) (result : Result T FileError) : Type 0 where
  pub some : IsFirstOf (value_writes at value) (added old.tape new.tape)
  pub all : OnOk result (added old.tape new.tape ≡ value_writes at value)
  pub table : new.bits ≡ old.bits
  pub counts : CountsMoves DiskFault old.tape new.tape (take (length (added old.tape new.tape)) (one_move o)) old.tally new.tally result
  pub out_of_memory : IsErrOf result Memory → old.tape.spare < 1
  pub unwritten : (IsErrOf result DiskFault → ⊥) → OnErr result (added old.tape new.tape ≡ [])

-- ---- one value of a leader
-- For every answer: nothing was written or counted, and it is neither Ok nor out of memory; or the sector carries the file's leader, and its
-- value with this name in it was to be written.
pub data Titles {T : Type 0} (p : Pack) (f : Fid) (name : List ℕ) (old now : Around) (result : Result T FileError) : Type 0 where
  untitled : IsQuiet old now → OnOk result ⊥ → (IsErrOf result Memory → ⊥) → Titles p f name old now result
  titling : {at : ℕ} → carried p at ≡ Some (page_number f 0) → WroteValue at (titled_value name (sector_at p at).value) (title f name) old now result → Titles p f name old now result

-- So it is of a stamp, where on a whole pack the last page is the file's.
pub data Stamps {T : Type 0} (p : Pack) (f : Fid) (moment : ℕ) (old now : Around) (result : Result T FileError) : Type 0 where
  unstamped : IsQuiet old now → OnOk result ⊥ → (IsErrOf result Memory → ⊥) → Stamps p f moment old now result
  stamping : {at : ℕ} {last : LastPage} → carried p at ≡ Some (page_number f 0) → (Whole p → IsLast p f last) → WroteValue at (stamped_value moment last.at last.number last.info.bytes (sector_at p at).value) (stamp f moment) old now result → Stamps p f moment old now result

-- ---- the cache
-- with true links before the call, a cache that was handy for a file is handy for it on the pack afterwards
abbrev pub LeavesHandy : Pack → Pack → Cached → Cached → Type 0
LeavesHandy p q old new = Whole p → LinksTrue p → (f : Fid) → HandyCache (sights p) f (all_listed old) → HandyCache (sights q) f (all_listed new)
