-- How the answer of a guarded command makes that of a call that is to do an operation.
use Rattle.std.specs.Prelude.{Bool, IsErrOf, List, Ok, OnOk, Result, [], false, length, take, true, ℕ, ◌++◌, ◌<◌, ◌∷◌, ◌≡◌}
use Rattle.laws_call.specs.alto_words.specs.declared.fid.Fid.{Fid}
use Rattle.laws_call.specs.disk_records.specs.Events.{IsFirstOf, writes_in}
use Rattle.laws_call.specs.disk_records.specs.Packs.{Pack}
use Rattle.laws_call.specs.disk_records.specs.Tapes.{Grown, Taped, added, capped, pack}
use Rattle.laws_call.specs.disk_records.specs.declared.records.Event.{Event}
use Rattle.laws_call.specs.disk_records.specs.declared.records.Tally.{Tally}
use Rattle.laws_call.specs.label_check.specs.Guarded.{Guarded}
use Rattle.laws_call.specs.label_check.specs.declared.errors.GuardError.TheVariants as guard
use Rattle.laws_call.specs.label_check.specs.declared.errors.GuardError.{GuardError}
use Rattle.laws_call.specs.Acting.{Around, Operates, Releases}
use Rattle.laws_call.specs.Writing.{Written}
use Rattle.laws_call.specs.laws_hint.specs.MapChanges.{marked}
use Rattle.laws_call.specs.laws_operation.specs.LifeLaws.{MayDrop, first_moves}
use Rattle.laws_call.specs.pack_model.specs.operations.Committing.{moves_of}
use Rattle.laws_call.specs.pack_model.specs.operations.Operations.{release_file_writes}
use Rattle.laws_call.specs.pack_model.specs.operations.Step.{Operation}
use Rattle.laws_call.specs.pack_model.specs.reading.Model.{read_as}
use Rattle.laws_call.specs.pack_model.specs.sessions.Tallies.{CountsMoves}
use Rattle.laws_call.specs.pack_model.specs.states.Whole.{Tidy, Whole}

-- ---- a part of a list of record writes
-- From the first state to the last there is a prefix of the list; after an Ok of the part's command, all up to the end of the part. It is
-- out of memory only if fewer events were kept ready at first than the whole list has.
pub record ByPart (before part later : List Event) (first last : Taped) (inner : Result (Unit {0}) GuardError) : Type 0 where
  pub some : IsFirstOf (before ++ (part ++ later)) (added first last)
  pub all : OnOk inner (added first last ≡ before ++ part)
  pub want : IsErrOf inner guard.Memory → first.spare < length (before ++ (part ++ later))

-- What a guarded command for these record writes says of them, whatever its guard: a prefix of them was written, at Ok all, and it is out
-- of memory only if fewer events were kept ready.
pub record WritesPart (part : List Event) (old new : Taped) (inner : Result (Unit {0}) GuardError) : Type 0 where
  pub prefix : IsFirstOf part (added old new)
  pub ok : OnOk inner (added old new ≡ part)
  pub less : IsErrOf inner guard.Memory → old.spare < length part

-- So it does where its guard asks what something of the pack is, as the page that a sector carries, or whether the sector is free.
abbrev pub GuardedWrites : Type 0 → Type 0
GuardedWrites T = (asked : Pack → T) (wanted : T) (at : ℕ) (early writes : List Event) (count : ℕ) (old new : Taped) (inner : Result (Unit {0}) GuardError)
    → Guarded (λ p. asked p ≡ wanted) at early writes count old new inner → WritesPart writes old new inner

-- All before the part was written, and then a guarded command is for it: the step of a loop, and the end of a call.
abbrev pub NextPart : Type 0
NextPart = (before part later : List Event) (first mid last : Taped) (inner : Result (Unit {0}) GuardError) → Grown first mid → Grown mid last → added first mid ≡ before → WritesPart part mid last inner → ByPart before part later first last inner

-- ---- the answer of a call by that of its last guarded command
-- Ok comes after Ok alone, and out of memory after out of memory alone; what the others become is the call's.
pub record Passes {T E : Type 0} (memory : E) (inner : Result (Unit {0}) GuardError) (result : Result T E) : Type 0 where
  pub ok : OnOk result (inner ≡ Ok tt)
  pub memory_is : IsErrOf result memory → IsErrOf inner guard.Memory

-- A call that ends with the guarded command for this part of the operation's record writes: at Ok none is left. What is needed besides is
-- the table and the tally.
pub record EndsWith {T E : Type 0} (memory : E) (before part later : List Event) (old new : Taped) (result : Result T E) : Type 0 where
  pub mid : Taped
  pub inner : Result (Unit {0}) GuardError
  pub one : Grown old mid
  pub two : Grown mid new
  pub done : added old mid ≡ before
  pub written : WritesPart part mid new inner
  pub passes : Passes memory inner result
  pub last : OnOk result (later ≡ [])

abbrev pub GuardedCallOperates : Type 0 → Type 0 → Type 0
GuardedCallOperates T E = (fault memory : E) (o : Operation) (claimed released : List ℕ) (before part later : List Event) (old new : Around) (result : Result T E)
    → Whole (pack old.tape) → Tidy (pack old.tape) → Written (pack old.tape) o claimed released (before ++ (part ++ later)) → EndsWith memory before part later old.tape new.tape result
    → OnOk result (new.bits ≡ marked false released (marked true claimed old.bits))
    → CountsMoves fault old.tape new.tape (take (length (added old.tape new.tape)) (moves_of (read_as (pack old.tape)) o)) old.tally new.tally result
    → Operates fault memory o claimed old new result

-- the same for the releases of a drop
abbrev pub GuardedCallReleases : Type 0 → Type 0 → Type 0
GuardedCallReleases T E = (fault memory : E) (f : Fid) (at : ℕ) (pages : List ℕ) (before part later : List Event) (old new : Around) (result : Result T E)
    → MayDrop (pack old.tape) f at pages → before ++ (part ++ later) ≡ release_file_writes at pages → EndsWith memory before part later old.tape new.tape result
    → OnOk result (new.bits ≡ marked false (at ∷ pages) old.bits)
    → CountsMoves fault old.tape new.tape (take (length (added old.tape new.tape)) (first_moves (pack old.tape) f)) old.tally new.tally result
    → Releases fault memory f old new result

-- ---- a look first
-- After a call that wrote nothing and left the tally, one that is to do an operation is to do it from the first call's beginning.
abbrev pub LookBeforeOperates : Type 0 → Type 0 → Type 0
LookBeforeOperates T E = (fault memory : E) (o : Operation) (claimed : List ℕ) (a b c : Taped) (bits now : List Bool) (t u : Tally) (result : Result T E)
    → Grown a b → Grown b c → added a b ≡ [] → a.writes ≡ capped (writes_in a.events) → b.writes ≡ capped (writes_in b.events)
    → Operates fault memory o claimed (record { tape = b; bits = bits; tally = t }) (record { tape = c; bits = now; tally = u }) result
    → Operates fault memory o claimed (record { tape = a; bits = bits; tally = t }) (record { tape = c; bits = now; tally = u }) result
