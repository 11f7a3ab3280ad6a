-- Calls one after another that do several operations, and a call that is to do them.
use Rattle.std.specs.Prelude.{Err, List, Ok, Result, [], ℕ, ◌++◌, ◌<◌, ◌^◌, ◌∷◌, ◌≡◌}
use Rattle.laws_hint.specs.disk_records.specs.Tapes.{DiskAlone}
use Rattle.laws_hint.specs.pack_model.specs.operations.Committing.{serial_moves}
use Rattle.laws_hint.specs.pack_model.specs.operations.Step.{Operation}
use Rattle.laws_call.specs.Acting.{Around, IsQuiet, Operates}
use Rattle.laws_call.specs.CountLaws.{CountsOn}

-- The machine went on, and counted its record writes.
pub record Went (old new : Around) : Type 0 where
  pub alone : DiskAlone old.tape new.tape
  pub counts : CountsOn old.tape new.tape

-- A call that is to do one operation, which needs no new serial, from a tally whose limit is a number of 64 bits.
pub record DoesOne {E : Type 0} (fault memory : E) (o : Operation) (claimed : List ℕ) (old new : Around) (result : Result (Unit {0}) E) : Type 0 where
  pub operates : Operates fault memory o claimed old new result
  pub went : Went old new
  pub serial : serial_moves o ≡ []
  pub low : old.tally.limit < 2 ^ 64

-- These operations are done, in their order, each by a call that is to do it, and claimed these sectors; between them calls only looked.
pub data Done {E : Type 0} (fault memory : E) (old : Around) : List Operation → List ℕ → Around → Type 0 where
  none : Done fault memory old [] [] old
  look : {ops : List Operation} {claimed : List ℕ} {mid new : Around} → Done fault memory old ops claimed mid → IsQuiet mid new → Went mid new → Done fault memory old ops claimed new
  then : {ops : List Operation} {claimed own : List ℕ} {mid new : Around} {o : Operation} → Done fault memory old ops claimed mid → DoesOne fault memory o own mid new (Ok tt) → Done fault memory old (ops ++ o ∷ []) (claimed ++ own) new

-- A call that is to do these operations, with these sectors. At Ok all are done. At an error a first part of them is done, or all; and then
-- the call for the next one answered it, or nothing more was written: a look answered it, or no memory was left for the call itself. This is
-- said of the error besides, by the machine before what answered it.
pub data Does {T E : Type 0} (fault memory : E) (Says : Around → Around → E → Type 0) (ops : List Operation) (claimed : List ℕ) (old new : Around) : Result T E → Type 0 where
  whole : {x : T} → Done fault memory old ops claimed new → Does fault memory Says ops claimed old new (Ok x)
  began : {e : E} {first : List Operation} {o : Operation} {taken own : List ℕ} {mid : Around} (more : List Operation) (others : List ℕ)
      → Done fault memory old first taken mid → (first ++ o ∷ []) ++ more ≡ ops → (taken ++ own) ++ others ≡ claimed → DoesOne fault memory o own mid new (Err e) → Says mid new e → Does fault memory Says ops claimed old new (Err e)
  looked : {e : E} {first : List Operation} {taken : List ℕ} {mid : Around} (more : List Operation) (others : List ℕ)
      → Done fault memory old first taken mid → first ++ more ≡ ops → taken ++ others ≡ claimed → IsQuiet mid new → Went mid new → Says mid new e → Does fault memory Says ops claimed old new (Err e)
