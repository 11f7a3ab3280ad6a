-- The answers of calls on a directory as a file, as those of calls on a directory.
use Rattle.std.proofs.Common.{◌≡◌, ◌∙◌, ℕ, List, Option, Result, Ok, Err, IsErrOf, OnErr, OnOk, ap, arith, refl, subst}
use Rattle.disk_records.specs.Causes.{Cause, HasCause, IsCause, Unfailed, never, other}
use Rattle.disk_records.specs.Tapes.{DiskAlone, Taped}
use Rattle.disk_records.proofs.Causing.{is_cause_after}
use Rattle.disk_records.specs.declared.records.Page.{Page}
use Rattle.disk_records.specs.declared.records.Place.{Place}
use Rattle.laws_call.specs.Acting.{Around, Operates, begun, refused}
use Rattle.pack_model.specs.operations.Step.{Operation}
use Rattle.page_seeking.specs.Causes.{cause_of_file, cause_of_length}
use Rattle.page_seeking.specs.Refs as refs
use Rattle.page_seeking.specs.declared.refs.FileError.{FileError}
use Rattle.page_seeking.specs.declared.refs.FileError.TheVariants as fault
use Rattle.directory.specs.declared.errors.DirError.{DirError}
use Rattle.directory.specs.declared.errors.DirError.TheVariants.{NoSuchName, NameTaken, NoSlot, File}
use Rattle.directory.specs.Answers.{in_directory, unlocated}
use Rattle.directory.specs.Errors.{IfBySlots, IfMisled, IfNoSlot, cause_of, disk_fault, out_of_memory}

-- ---- the same answer
pub ok_in : (P : Type 0) (a : Result (Unit {0}) FileError) → OnOk a P → OnOk (in_directory a) P
ok_in P (Ok x) p = p
ok_in P (Err e) p = tt

pub error_in : (a : Result (Unit {0}) FileError) (e : FileError) → IsErrOf a e → IsErrOf (in_directory a) (File e)
error_in a e h = ap in_directory h

pub error_out : (a : Result (Unit {0}) FileError) (e : FileError) → IsErrOf (in_directory a) (File e) → IsErrOf a e
error_out (Ok x) e h = absurd cc
error_out (Err f) e h = cc

-- so it is to do the operation
pub operates_in : {o : Operation} {claimed : List ℕ} {old new : Around} (a : Result (Unit {0}) FileError) (r : Result (Unit {0}) DirError) → r ≡ in_directory a → Operates fault.DiskFault fault.Memory o claimed old new a → Operates disk_fault out_of_memory o claimed old new r
operates_in a r is (refused quiet undone room) = rw is (refused quiet (ok_in _ a undone) (λ memory. room (error_out a fault.Memory memory)))
operates_in a r is (begun b) = rw is (begun (record {
  writes = b.writes;
  released = b.released;
  exact = b.exact;
  acts = b.acts;
  some = b.some;
  all = ok_in _ a b.all;
  table = ok_in _ a b.table;
  counts = λ tells. b.counts (λ failed. tells (error_in a fault.DiskFault failed));
  out_of_memory = λ memory. b.out_of_memory (error_out a fault.Memory memory);
}))

pub misled_in : (P : Place → ℕ → Page → Option (List ℕ) → Type 0) (a : Result (Unit {0}) FileError) (r : Result (Unit {0}) DirError) → r ≡ in_directory a → refs.IfMisled a P → IfMisled r P
misled_in P (Ok x) r is h = rw is tt
misled_in P (Err (fault.Misled place at wanted found)) r is h = rw is h
misled_in P (Err (fault.Beyond length)) r is h = rw is tt
misled_in P (Err fault.DiskFault) r is h = rw is tt
misled_in P (Err fault.Memory) r is h = rw is tt

pub cause_in : (absent taken full : Cause) (first a b : Taped) (x : Result (Unit {0}) FileError) (r : Result (Unit {0}) DirError) → r ≡ in_directory x → Unfailed first a → HasCause cause_of_length a b x → HasCause (cause_of absent taken full) first b r
cause_in absent taken full first a b (Ok x) r is none h = rw is (h ∙ none)
cause_in absent taken full first a b (Err (fault.Misled place at wanted found)) r is none h = rw is (h ∙ none)
cause_in absent taken full first a b (Err (fault.Beyond length)) r is none h = rw is h
cause_in absent taken full first a b (Err fault.DiskFault) r is none h = rw is (omega (arith, none, h))
cause_in absent taken full first a b (Err fault.Memory) r is none h = rw is (h ∙ none)

pub not_by_slots : (X : Type 0) (a : Result (Unit {0}) FileError) (r : Result (Unit {0}) DirError) → r ≡ in_directory a → IfBySlots r X
not_by_slots X (Ok x) r is = rw is tt
not_by_slots X (Err e) r is = rw is tt

pub by_slots_map : (X Y : Type 0) (r : Result (Unit {0}) DirError) → (X → Y) → IfBySlots r X → IfBySlots r Y
by_slots_map X Y (Ok x) f h = tt
by_slots_map X Y (Err NoSuchName) f h = f h
by_slots_map X Y (Err NameTaken) f h = f h
by_slots_map X Y (Err (NoSlot largest)) f h = f h
by_slots_map X Y (Err (File e)) f h = tt

pub not_absent : (a : Result (Unit {0}) FileError) (r : Result (Unit {0}) DirError) → r ≡ in_directory a → IsErrOf r NoSuchName → ⊥
not_absent (Ok x) r is h = absurd cc
not_absent (Err e) r is h = absurd cc

pub on_ok_in : (P : Type 0) (a : Result (Unit {0}) FileError) (r : Result (Unit {0}) DirError) → r ≡ in_directory a → OnOk a P → OnOk r P
on_ok_in P a r is h = rw is (ok_in P a h)

pub on_err_in : (P : Type 0) (a : Result (Unit {0}) FileError) (r : Result (Unit {0}) DirError) → r ≡ in_directory a → OnErr a P → OnErr r P
on_err_in P (Ok x) r is h = rw is tt
on_err_in P (Err e) r is h = rw is h

-- ---- the page of an entry that wasn't located
pub unlocated_misled : (T U : Type 0) (P : Place → ℕ → Page → Option (List ℕ) → Type 0) (e : FileError) (d : DirError) → d ≡ unlocated e → refs.IfMisled {T = T} (Err e) P → IfMisled {T = U} (Err d) P
unlocated_misled T U P (fault.Misled place at wanted found) d is h = rw is h
unlocated_misled T U P (fault.Beyond length) d is h = rw is tt
unlocated_misled T U P fault.DiskFault d is h = rw is tt
unlocated_misled T U P fault.Memory d is h = rw is tt

pub unlocated_cause : (first a b : Taped) (e : FileError) (d : DirError) → d ≡ unlocated e → Unfailed first a → IsCause a b (cause_of_file e) → IsCause first b (cause_of other never never d)
unlocated_cause first a b (fault.Misled place at wanted found) d is none h = rw is (h ∙ none)
unlocated_cause first a b (fault.Beyond length) d is none h = rw is (h ∙ none)
unlocated_cause first a b fault.DiskFault d is none h = rw is (omega (arith, none, h))
unlocated_cause first a b fault.Memory d is none h = rw is (h ∙ none)

pub unlocated_memory : (T U : Type 0) (e : FileError) (d : DirError) → d ≡ unlocated e → IsErrOf {T = U} (Err d) out_of_memory → IsErrOf {T = T} (Err e) fault.Memory
unlocated_memory T U (fault.Misled place at wanted found) d is h = absurd cc
unlocated_memory T U (fault.Beyond length) d is h = absurd cc
unlocated_memory T U fault.DiskFault d is h = absurd cc
unlocated_memory T U fault.Memory d is h = refl

-- it is absent only where the file ended before
pub unlocated_absent : (T U : Type 0) (P : ℕ → Type 0) (e : FileError) (d : DirError) → d ≡ unlocated e → refs.IfBeyond {T = T} (Err e) P → ((n : ℕ) → P n → ⊥) → IsErrOf {T = U} (Err d) NoSuchName → ⊥
unlocated_absent T U P (fault.Misled place at wanted found) d is h none m = absurd cc
unlocated_absent T U P (fault.Beyond length) d is h none m = none length h
unlocated_absent T U P fault.DiskFault d is h none m = absurd cc
unlocated_absent T U P fault.Memory d is h none m = absurd cc

-- ---- a part of a call
-- an answer that the part never gives may come in the call
pub cause_of_entering : {T : Type 0} (full : Cause) {first a : Taped} (b : Taped) (r : Result T DirError) → DiskAlone first a → Unfailed first a → (IsCause a b full → Unfailed a b) → HasCause (cause_of never never full) a b r → HasCause (cause_of never other other) first b r
cause_of_entering full b (Ok x) alone none is_full h = h ∙ none
cause_of_entering full b (Err NoSuchName) alone none is_full h = h
cause_of_entering full b (Err NameTaken) alone none is_full h = absurd h
cause_of_entering full b (Err (NoSlot largest)) alone none is_full h = is_full h ∙ none
cause_of_entering full b (Err (File f)) alone none is_full h = is_cause_after b alone none (cause_of_length f) h

-- a part that never answers by the slots doesn't make the call do so
pub never_by_slots : {T : Type 0} (X : Type 0) (r : Result T DirError) → IfBySlots r ⊥ → IfBySlots r X
never_by_slots X (Ok x) h = tt
never_by_slots X (Err NoSuchName) h = absurd h
never_by_slots X (Err NameTaken) h = absurd h
never_by_slots X (Err (NoSlot largest)) h = absurd h
never_by_slots X (Err (File f)) h = tt

pub never_full : {T : Type 0} (P : ℕ → Type 0) (r : Result T DirError) → IfBySlots r ⊥ → IfNoSlot r P
never_full P (Ok x) h = tt
never_full P (Err NoSuchName) h = tt
never_full P (Err NameTaken) h = tt
never_full P (Err (NoSlot largest)) h = absurd h
never_full P (Err (File f)) h = tt

pub never_taken : {T : Type 0} (r : Result T DirError) → IfBySlots r ⊥ → IsErrOf r NameTaken → ⊥
never_taken r h e = subst (λ x. IfBySlots x ⊥) e h

-- and one that does so only where something is false, which isn't
pub by_slots_none : {T : Type 0} (X : Type 0) (r : Result T DirError) → (X → ⊥) → IfBySlots r X → IfBySlots r ⊥
by_slots_none X (Ok x) f h = tt
by_slots_none X (Err NoSuchName) f h = f h
by_slots_none X (Err NameTaken) f h = f h
by_slots_none X (Err (NoSlot largest)) f h = f h
by_slots_none X (Err (File e)) f h = tt

pub by_slots_any : {T : Type 0} (X : Type 0) (r : Result T DirError) → X → IfBySlots r X
by_slots_any X (Ok x) h = tt
by_slots_any X (Err NoSuchName) h = h
by_slots_any X (Err NameTaken) h = h
by_slots_any X (Err (NoSlot largest)) h = h
by_slots_any X (Err (File f)) h = tt

pub never_misled : {T : Type 0} (P : Place → ℕ → Page → Option (List ℕ) → Type 0) (r : Result T DirError) → IfMisled r (λ place at wanted found. ⊥) → IfMisled r P
never_misled P (Ok x) h = tt
never_misled P (Err NoSuchName) h = tt
never_misled P (Err NameTaken) h = tt
never_misled P (Err (NoSlot largest)) h = tt
never_misled P (Err (File (fault.Misled place at wanted found))) h = absurd h
never_misled P (Err (File (fault.Beyond length))) h = tt
never_misled P (Err (File fault.DiskFault)) h = tt
never_misled P (Err (File fault.Memory)) h = tt

pub same_error : (T U : Type 0) (e f : DirError) → IsErrOf {T = U} (Err e) f → IsErrOf {T = T} (Err e) f
same_error T U e f h = let same : e ≡ f = cc in ap Err same
