-- The answers of calls on files and directories, as those of a step.
use Rattle.std.proofs.Common.{Contains, Err, IsErrOf, List, Ok, OnErr, OnOk, Option, Result, [], ap, arith, refl, subst, sym, ℕ, ◌<◌, ◌≡◌, ◌≤◌}
use Rattle.std.specs.Result.{IsErrAnd}
use Rattle.alto_words.specs.declared.fid.Fid.{Fid}
use Rattle.disk_records.specs.Causes.{Cause, HasCause, IsCause, never}
use Rattle.disk_records.specs.Packs.{Pack}
use Rattle.disk_records.specs.Tapes.{Taped, added}
use Rattle.disk_records.specs.declared.records.Event.{Event}
use Rattle.disk_records.specs.declared.records.Page.{Page}
use Rattle.disk_records.specs.declared.records.Place.{Place}
use Rattle.exec_session.specs.laws_call.proofs.OtherErrors.{operates_err, operates_ok}
use Rattle.exec_session.specs.laws_call.specs.Acting.{Around, IsQuiet, Operates}
use Rattle.page_seeking.specs.Causes.{cause_of_length}
use Rattle.page_seeking.specs.Refs as refs
use Rattle.page_seeking.specs.Refs.{MisledBy}
use Rattle.page_seeking.specs.declared.refs.FileError.{FileError}
use Rattle.page_seeking.specs.declared.refs.FileError.TheVariants as fault
use Rattle.page_seeking.specs.declared.refs.FileRef.{FileRef}
use Rattle.disk_descriptor.specs.Answers.{IfHeld, IfSpent}
use Rattle.disk_descriptor.specs.Fields.{most_last}
use Rattle.disk_descriptor.specs.declared.errors.DescError.{DescError}
use Rattle.disk_descriptor.specs.declared.errors.DescError.TheVariants as desc
use Rattle.directory.specs.Errors.{IfMisled, IfNoSlot, cause_of, disk_fault, out_of_memory}
use Rattle.directory.specs.declared.errors.DirError.{DirError}
use Rattle.directory.specs.declared.errors.DirError.TheVariants.{NoSuchName, NameTaken, NoSlot, File}
use Rattle.pack_model.specs.hints.Misled.{AnswersMisled}
use Rattle.pack_model.specs.operations.Step.{Operation}
use Rattle.session_model.specs.Refusals.{most_serials}
use Rattle.exec_session.proofs.Causing.{IsRefusal, cause_of_refusal}
use Rattle.exec_session.specs.Meant.{IfHint, IfRefused}
use Rattle.exec_session.specs.Stops.{cause_of_stop, stop_entered, stop_of_desc, stop_writing, stop_written}
use Rattle.exec_session.specs.declared.stop.Stop.{Stop}
use Rattle.exec_session.specs.declared.stop.Stop.TheVariants as stop

-- ---- that a call is to do an operation
module _ {o : Operation} {claimed : List ℕ} {old new : Around} where
  written_err : (file : FileRef) (e : FileError) → Operates {T = Unit {0}} fault.DiskFault fault.Memory o claimed old new (Err e) → Operates {T = Unit {0}} stop.DiskFault stop.Memory o claimed old new (Err (stop_writing file e))
  written_err file (fault.Misled place at wanted found) h = operates_err _ _ (λ e. absurd cc) (λ e. absurd cc) h
  written_err file (fault.Beyond length) h = operates_err _ _ (λ e. absurd cc) (λ e. absurd cc) h
  written_err file fault.DiskFault h = operates_err _ _ (λ e. refl) (λ e. absurd cc) h
  written_err file fault.Memory h = operates_err _ _ (λ e. absurd cc) (λ e. refl) h

  pub written_operates : (file : FileRef) (result : Result (Unit {0}) FileError) → Operates fault.DiskFault fault.Memory o claimed old new result → Operates stop.DiskFault stop.Memory o claimed old new (stop_written file result)
  written_operates file (Ok x) h = operates_ok x h
  written_operates file (Err e) h = written_err file e h

  entered_fault : (dir : FileRef) (e : FileError) → Operates {T = Unit {0}} disk_fault out_of_memory o claimed old new (Err (File e)) → Operates {T = Unit {0}} stop.DiskFault stop.Memory o claimed old new (Err (stop_writing dir e))
  entered_fault dir (fault.Misled place at wanted found) h = operates_err _ _ (λ e. absurd cc) (λ e. absurd cc) h
  entered_fault dir (fault.Beyond length) h = operates_err _ _ (λ e. absurd cc) (λ e. absurd cc) h
  entered_fault dir fault.DiskFault h = operates_err _ _ (λ e. refl) (λ e. absurd cc) h
  entered_fault dir fault.Memory h = operates_err _ _ (λ e. absurd cc) (λ e. refl) h

  pub entered_operates : (dir : FileRef) (result : Result (Unit {0}) DirError) → Operates disk_fault out_of_memory o claimed old new result → Operates stop.DiskFault stop.Memory o claimed old new (stop_entered dir result)
  entered_operates dir (Ok x) h = operates_ok x h
  entered_operates dir (Err NoSuchName) h = operates_err _ _ (λ e. absurd cc) (λ e. absurd cc) h
  entered_operates dir (Err NameTaken) h = operates_err _ _ (λ e. absurd cc) (λ e. absurd cc) h
  entered_operates dir (Err (NoSlot largest)) h = operates_err _ _ (λ e. absurd cc) (λ e. absurd cc) h
  entered_operates dir (Err (File e)) h = entered_fault dir e h

-- ---- a hint that misled
-- of this file, when nothing was written yet
of_file : (p : Pack) (events : List Event) (f : Fid) (files : List Fid) → Contains files f → events ≡ [] → (place : Place) (at : ℕ) (wanted : Page) (found : Option (List ℕ)) → MisledBy p [] f place at wanted found → Contains files wanted.fid × AnswersMisled p events place at wanted found
of_file p events f files there silent place at wanted found h = (subst (Contains files) (sym h.own) there, subst (λ l. AnswersMisled p l place at wanted found) (sym silent) h.answers)

module _ (p : Pack) (events : List Event) (f : Fid) (files : List Fid) (there : Contains files f) (a b : Taped) where
  pub written_hints : (file : FileRef) (result : Result (Unit {0}) FileError) → HasCause cause_of_length a b result → refs.IfMisled result (MisledBy p [] f) → refs.IfMisled result (λ place at wanted found. events ≡ [])
      → IfHint (stop_written file result) (λ place at wanted found. Contains files wanted.fid × AnswersMisled p events place at wanted found)
  written_hints file (Ok x) cause h silent = tt
  written_hints file (Err (fault.Misled place at wanted found)) cause h silent = of_file p events f files there silent place at wanted found h
  written_hints file (Err (fault.Beyond length)) cause h silent = absurd cause
  written_hints file (Err fault.DiskFault) cause h silent = tt
  written_hints file (Err fault.Memory) cause h silent = tt

  entered_hint : (dir : FileRef) (e : FileError) → IsCause a b (cause_of_length e) → refs.IfMisled {T = Unit {0}} (Err e) (MisledBy p [] f) → refs.IfMisled {T = Unit {0}} (Err e) (λ place at wanted found. events ≡ [])
      → IfHint {T = Unit {0}} (Err (stop_writing dir e)) (λ place at wanted found. Contains files wanted.fid × AnswersMisled p events place at wanted found)
  entered_hint dir (fault.Misled place at wanted found) cause h silent = of_file p events f files there silent place at wanted found h
  entered_hint dir (fault.Beyond length) cause h silent = absurd cause
  entered_hint dir fault.DiskFault cause h silent = tt
  entered_hint dir fault.Memory cause h silent = tt

  -- where the slots refused nothing
  pub entered_hints : (dir : FileRef) (taken full : Cause) (result : Result (Unit {0}) DirError) → HasCause (cause_of never taken full) a b result → (result ≡ Err NameTaken → ⊥) → IfNoSlot result (λ largest. ⊥) → IfMisled result (MisledBy p [] f) → IfMisled result (λ place at wanted found. events ≡ [])
      → IfHint (stop_entered dir result) (λ place at wanted found. Contains files wanted.fid × AnswersMisled p events place at wanted found)
  entered_hints dir taken full (Ok x) cause untaken roomy h silent = tt
  entered_hints dir taken full (Err NoSuchName) cause untaken roomy h silent = absurd cause
  entered_hints dir taken full (Err NameTaken) cause untaken roomy h silent = absurd (untaken refl)
  entered_hints dir taken full (Err (NoSlot largest)) cause untaken roomy h silent = absurd roomy
  entered_hints dir taken full (Err (File e)) cause untaken roomy h silent = entered_hint dir e cause h silent

-- ---- of every answer of a call that wrote: it isn't refused, and has its cause
pub written_unrefused : (file : FileRef) (result : Result (Unit {0}) FileError) → IfRefused (stop_written file result) (λ r. ⊥)
written_unrefused file (Ok x) = tt
written_unrefused file (Err (fault.Misled place at wanted found)) = tt
written_unrefused file (Err (fault.Beyond length)) = tt
written_unrefused file (Err fault.DiskFault) = tt
written_unrefused file (Err fault.Memory) = tt

pub written_cause : (a b : Taped) (file : FileRef) (result : Result (Unit {0}) FileError) → HasCause cause_of_length a b result → HasCause cause_of_stop a b (stop_written file result)
written_cause a b file (Ok x) h = h
written_cause a b file (Err (fault.Misled place at wanted found)) h = h
written_cause a b file (Err (fault.Beyond length)) h = absurd h
written_cause a b file (Err fault.DiskFault) h = h
written_cause a b file (Err fault.Memory) h = h

pub entered_unrefused : (dir : FileRef) (result : Result (Unit {0}) DirError) → IfRefused (stop_entered dir result) (λ r. ⊥)
entered_unrefused dir (Ok x) = tt
entered_unrefused dir (Err NoSuchName) = tt
entered_unrefused dir (Err NameTaken) = tt
entered_unrefused dir (Err (NoSlot largest)) = tt
entered_unrefused dir (Err (File e)) = written_unrefused dir (Err e)

pub entered_cause : (absent taken full : Cause) → IsRefusal absent → IsRefusal taken → IsRefusal full → (a b : Taped) (dir : FileRef) (result : Result (Unit {0}) DirError) → HasCause (cause_of absent taken full) a b result → HasCause cause_of_stop a b (stop_entered dir result)
entered_cause absent taken full x y z a b dir (Ok unit) h = h
entered_cause absent taken full x y z a b dir (Err NoSuchName) h = cause_of_refusal absent a b x h
entered_cause absent taken full x y z a b dir (Err NameTaken) h = cause_of_refusal taken a b y h
entered_cause absent taken full x y z a b dir (Err (NoSlot largest)) h = cause_of_refusal full a b z h
entered_cause absent taken full x y z a b dir (Err (File e)) h = written_cause a b dir (Err e) h

-- ---- what is said of other answers
pub misled_silent : (X : Type 0) (result : Result (Unit {0}) FileError) → ((IsErrOf result fault.DiskFault → ⊥) → OnErr result X) → refs.IfMisled result (λ place at wanted found. X)
misled_silent X (Ok x) h = tt
misled_silent X (Err (fault.Misled place at wanted found)) h = h (λ e. cc)
misled_silent X (Err (fault.Beyond length)) h = tt
misled_silent X (Err fault.DiskFault) h = tt
misled_silent X (Err fault.Memory) h = tt

pub misled_quiet : (old new : Around) (result : Result (Unit {0}) DirError) → IfMisled result (λ place at wanted found. IsQuiet old new) → IfMisled result (λ place at wanted found. added old.tape new.tape ≡ [])
misled_quiet old new (Ok x) h = tt
misled_quiet old new (Err NoSuchName) h = tt
misled_quiet old new (Err NameTaken) h = tt
misled_quiet old new (Err (NoSlot largest)) h = tt
misled_quiet old new (Err (File (fault.Misled place at wanted found))) h = h.silent
misled_quiet old new (Err (File (fault.Beyond length))) h = tt
misled_quiet old new (Err (File fault.DiskFault)) h = tt
misled_quiet old new (Err (File fault.Memory)) h = tt

pub quiet_silent : (old new : Around) (result : Result (Unit {0}) FileError) → refs.IfMisled result (λ place at wanted found. IsQuiet old new) → refs.IfMisled result (λ place at wanted found. added old.tape new.tape ≡ [])
quiet_silent old new (Ok x) h = tt
quiet_silent old new (Err (fault.Misled place at wanted found)) h = h.silent
quiet_silent old new (Err (fault.Beyond length)) h = tt
quiet_silent old new (Err fault.DiskFault) h = tt
quiet_silent old new (Err fault.Memory) h = tt

pub roomy : (P : ℕ → Type 0) (result : Result (Unit {0}) DirError) → ((largest : ℕ) → P largest → ⊥) → IfNoSlot result P → IfNoSlot result (λ largest. ⊥)
roomy P (Ok x) f h = tt
roomy P (Err NoSuchName) f h = tt
roomy P (Err NameTaken) f h = tt
roomy P (Err (NoSlot largest)) f h = f largest h
roomy P (Err (File e)) f h = tt

-- ---- of calls on DiskDescriptor
pub desc_hints : (T U : Type 0) (x : DescError) → IfHeld {T = U} (Err x) (λ at found. ⊥) → IfHint {T = T} (Err (stop_of_desc x)) (λ place at wanted found. ⊥)
desc_hints T U (desc.Spent last) h = tt
desc_hints T U (desc.Held at found) h = h
desc_hints T U desc.DiskFault h = tt
desc_hints T U desc.Memory h = tt

pub desc_unrefused : (T U : Type 0) (x : DescError) (k : ℕ) → k < most_serials → IfSpent {T = U} (Err x) (λ last. (last ≡ k) × (most_last ≤ last)) → IfRefused {T = T} (Err (stop_of_desc x)) (λ r. ⊥)
unfolding most_serials
desc_unrefused T U (desc.Spent last) k left h = let same = h.0 in let most = h.1 in absurd (omega (arith, left, same, most))
desc_unrefused T U (desc.Held at found) k left h = tt
desc_unrefused T U desc.DiskFault k left h = tt
desc_unrefused T U desc.Memory k left h = tt

-- ---- the error that an answer passes on, and a call that wrote to a file
pub error_is : {U : Type 0} {s : Stop} (r : Result U Stop) → IsErrAnd r (λ x. x ≡ s) → r ≡ Err s
error_is (Ok x) is = absurd is
error_is (Err x) is = ap Err is

pub was_written : (X : Type 0) (file : FileRef) (x : Unit {0}) (result : Result (Unit {0}) FileError) → Ok x ≡ stop_written file result → OnOk result X → X
was_written X file x (Ok y) is h = h
was_written X file x (Err e) is h = absurd cc

pub no_hints : (file : FileRef) (a b : Taped) (result : Result (Unit {0}) FileError) → HasCause cause_of_length a b result → refs.IfMisled result (λ place at wanted found. ⊥) → IfHint (stop_written file result) (λ place at wanted found. ⊥)
no_hints file a b (Ok x) cause h = tt
no_hints file a b (Err (fault.Misled place at wanted found)) cause h = h
no_hints file a b (Err (fault.Beyond length)) cause h = cause
no_hints file a b (Err fault.DiskFault) cause h = tt
no_hints file a b (Err fault.Memory) cause h = tt

-- a call that never answers that there is no room
pub never_full : (a b : Taped) (result : Result (Unit {0}) DirError) → HasCause (cause_of never never never) a b result → IfNoSlot result (λ largest. ⊥)
never_full a b (Ok x) cause = tt
never_full a b (Err NoSuchName) cause = tt
never_full a b (Err NameTaken) cause = tt
never_full a b (Err (NoSlot largest)) cause = cause
never_full a b (Err (File e)) cause = tt

-- what is so at Ok
pub on_written : (X : Type 0) (file : FileRef) (result : Result (Unit {0}) FileError) → OnOk result X → OnOk (stop_written file result) X
on_written X file (Ok x) h = h
on_written X file (Err e) h = tt
