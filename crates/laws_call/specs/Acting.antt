-- What a caller sees of an operation: all of its record writes, and what they do; and a call that is to do it.
use Rattle.std.specs.Prelude.{Bool, IsErrOf, List, OnOk, Result, [], false, length, take, true, ℕ, ◌<◌, ◌∷◌, ◌≡◌}
use Rattle.laws_hint.specs.alto_words.specs.declared.fid.Fid.{Fid}
use Rattle.laws_hint.specs.disk_records.specs.Events.{IsFirstOf}
use Rattle.laws_hint.specs.disk_records.specs.Packs.{Pack, after}
use Rattle.laws_hint.specs.disk_records.specs.Tapes.{Taped, added, pack}
use Rattle.laws_hint.specs.disk_records.specs.declared.records.Event.{Event}
use Rattle.laws_hint.specs.disk_records.specs.declared.records.Tally.{Tally}
use Rattle.laws_hint.specs.pack_model.specs.operations.Committing.{moves_of}
use Rattle.laws_hint.specs.pack_model.specs.operations.Operations.{release_file_writes}
use Rattle.laws_hint.specs.pack_model.specs.operations.Step.{Operation}
use Rattle.laws_hint.specs.pack_model.specs.reading.Model.{read_as}
use Rattle.laws_hint.specs.pack_model.specs.sessions.Tallies.{CountsMoves}
use Rattle.laws_call.specs.Writing.{Written}
use Rattle.laws_hint.specs.MapChanges.{MarksMap, marked}
use Rattle.laws_hint.specs.laws_line.specs.CrashLaws.{StaysMendable}
use Rattle.laws_hint.specs.laws_operation.specs.FreeLaws.{StayFreeBut}
use Rattle.laws_hint.specs.laws_operation.specs.LifeLaws.{MayDrop, first_moves}
use Rattle.laws_hint.specs.laws_operation.specs.LinkLaws.{KeepsLinks}
use Rattle.laws_hint.specs.laws_operation.specs.Outcomes.{KeepsDescriptor, StillFits}

-- ---- all record writes of an operation
-- On a whole and tidy pack they make its moves, each crash point is viewed as the model there and can be scavenged where the models are
-- ready, and afterwards the pack is read as the step, whole and tidy. DiskDescriptor stays, and what a session keeps of it fits. Links that
-- were true are true again. The true map changes at these sectors alone, and each other free sector stays free.
pub record Acts (p : Pack) (o : Operation) (claimed released : List ℕ) (writes : List Event) : Type 0 where
  pub stays : StaysMendable p writes o
  pub descriptor : KeepsDescriptor p (after p writes)
  pub fits : StillFits p (after p writes)
  pub links : KeepsLinks p writes
  pub map : MarksMap p writes claimed released
  pub free : StayFreeBut claimed p writes

-- ---- a call that is to do an operation
-- Before or after a call: the machine, the bits of the table, and the tally.
pub record Around : Type 0 where
  pub tape : Taped
  pub bits : List Bool
  pub tally : Tally

abbrev pub around : Taped → List Bool → Tally → Around
around tape bits tally = record { tape = tape; bits = bits; tally = tally }

-- Nothing was written, and nothing counted.
pub record IsQuiet (old new : Around) : Type 0 where
  pub silent : added old.tape new.tape ≡ []
  pub bits : new.bits ≡ old.bits
  pub tally : new.tally ≡ old.tally

-- The call began to write, with these record writes of the operation, in the words of `pack_model`. For every answer those that it made are
-- a prefix of them, and are counted. At Ok they are all of them, and the table has the sectors that were claimed as busy, and those that
-- were released as free. Out of memory comes only if fewer events were kept ready than the operation has record writes.
pub record BeganToWrite {T E : Type 0} (fault memory : E) (o : Operation) (claimed : List ℕ) (old new : Around) (result : Result T E) : Type 0 where
  pub writes : List Event
  pub released : List ℕ
  pub exact : Written (pack old.tape) o claimed released writes
  pub acts : Acts (pack old.tape) o claimed released writes
  pub some : IsFirstOf writes (added old.tape new.tape)
  pub all : OnOk result (added old.tape new.tape ≡ writes)
  pub table : OnOk result (new.bits ≡ marked false released (marked true claimed old.bits))
  pub counts : CountsMoves fault old.tape new.tape (take (length (added old.tape new.tape)) (moves_of (read_as (pack old.tape)) o)) old.tally new.tally result
  pub out_of_memory : IsErrOf result memory → old.tape.spare < length writes

-- For every answer: it wrote nothing, counted nothing, and is neither Ok nor out of memory; or it began.
pub data Operates {T E : Type 0} (fault memory : E) (o : Operation) (claimed : List ℕ) (old new : Around) (result : Result T E) : Type 0 where
  refused : IsQuiet old new → OnOk result ⊥ → (IsErrOf result memory → ⊥) → Operates fault memory o claimed old new result
  begun : BeganToWrite fault memory o claimed old new result → Operates fault memory o claimed old new result

-- ---- a drop without the slot of its entry
-- The releases of the file's sectors began: of its leader in this one and of its data pages in these. It is as `BeganToWrite`, except that the
-- operation is whole only once its entry's slot is freed.
pub record Released {T E : Type 0} (fault memory : E) (f : Fid) (old new : Around) (result : Result T E) : Type 0 where
  pub at : ℕ
  pub pages : List ℕ
  pub may : MayDrop (pack old.tape) f at pages
  pub some : IsFirstOf (release_file_writes at pages) (added old.tape new.tape)
  pub all : OnOk result (added old.tape new.tape ≡ release_file_writes at pages)
  pub table : OnOk result (new.bits ≡ marked false (at ∷ pages) old.bits)
  pub counts : CountsMoves fault old.tape new.tape (take (length (added old.tape new.tape)) (first_moves (pack old.tape) f)) old.tally new.tally result
  pub out_of_memory : IsErrOf result memory → old.tape.spare < length (release_file_writes at pages)

pub data Releases {T E : Type 0} (fault memory : E) (f : Fid) (old new : Around) (result : Result T E) : Type 0 where
  unreleased : IsQuiet old new → OnOk result ⊥ → (IsErrOf result memory → ⊥) → Releases fault memory f old new result
  releasing : Released fault memory f old new result → Releases fault memory f old new result
