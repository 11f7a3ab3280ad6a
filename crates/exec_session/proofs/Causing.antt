-- An error that an answer passes on: its cause, and that it isn't out of memory.
use Rattle.std.proofs.Common.{◌≡◌, IsErrOf, Result, Ok, Err, refl, ap, sym, subst, ◌∙◌}
use Rattle.std.specs.Result.{IsErrAnd}
use Rattle.disk_records.specs.Causes.{Cause, HasCause, IsCause, Unfailed, disk, display, keyboard, never, other}
use Rattle.disk_records.specs.Tapes.{Rose, Taped}
use Rattle.label_check.specs.Causes.{cause_of_look}
use Rattle.label_check.specs.declared.errors.LookError.{LookError}
use Rattle.label_check.specs.declared.errors.LookError.TheVariants as look
use Rattle.page_alloc.specs.Causes.{cause_of_alloc}
use Rattle.page_alloc.specs.declared.errors.AllocError.{AllocError}
use Rattle.page_alloc.specs.declared.errors.AllocError.TheVariants as alloc
use Rattle.page_seeking.specs.Causes.{cause_of_file, cause_of_length}
use Rattle.page_seeking.specs.declared.refs.FileError.{FileError}
use Rattle.page_seeking.specs.declared.refs.FileError.TheVariants as fault
use Rattle.directory.specs.Errors.{cause_of, out_of_memory}
use Rattle.directory.specs.declared.errors.DirError.{DirError}
use Rattle.directory.specs.declared.errors.DirError.TheVariants.{NoSuchName, NameTaken, NoSlot, File}
use Rattle.disk_descriptor.specs.Answers as desc_answers
use Rattle.disk_descriptor.specs.declared.errors.DescError.{DescError}
use Rattle.disk_descriptor.specs.declared.errors.DescError.TheVariants as desc
use Rattle.exec_words.specs.declared.reply.Refusal.{Refusal}
use Rattle.exec_session.specs.declared.stop.Stop.{Stop}
use Rattle.exec_session.specs.declared.stop.Stop.TheVariants as stop
use Rattle.exec_session.specs.Stops.{cause_of_stop, stop_of_alloc, stop_of_desc, stop_of_dir, stop_of_file, stop_of_look}
use Rattle.exec_session.proofs.Stopping.{error_is}

-- ---- the cause, in the first call or after others
pub cause_passed : {U : Type 0} (a b : Taped) (e : Stop) (r : Result U Stop) → IsErrAnd r (λ x. x ≡ e) → IsCause a b (cause_of_stop e) → HasCause cause_of_stop a b r
cause_passed a b e r is h = subst (HasCause cause_of_stop a b) (sym (error_is r is)) h

cause_later : (e : Stop) (a b c : Taped) → Unfailed a b → IsCause b c (cause_of_stop e) → IsCause a c (cause_of_stop e)
cause_later (stop.Refused r) a b c none h = h ∙ none
cause_later (stop.Misled place at wanted found) a b c none h = h ∙ none
cause_later stop.DiskFault a b c none h = subst (λ n. Rose n c.disk_faults) none h
cause_later stop.Memory a b c none h = h ∙ none

pub cause_after : {U : Type 0} (a b c : Taped) (e : Stop) (r : Result U Stop) → IsErrAnd r (λ x. x ≡ e) → Unfailed a b → IsCause b c (cause_of_stop e) → HasCause cause_of_stop a c r
cause_after a b c e r is none h = cause_passed a c e r is (cause_later e a b c none h)

-- of a call that ends with a part
pub cause_sooner : {U : Type 0} (a b c : Taped) (r : Result U Stop) → Unfailed a b → HasCause cause_of_stop b c r → HasCause cause_of_stop a c r
cause_sooner a b c (Ok x) none h = h ∙ none
cause_sooner a b c (Err e) none h = cause_later e a b c none h

-- by the error of the call that failed
pub cause_by_file : (a b : Taped) (e : FileError) → IsCause a b (cause_of_file e) → IsCause a b (cause_of_stop (stop_of_file e))
cause_by_file a b (fault.Misled place at wanted found) h = h
cause_by_file a b (fault.Beyond length) h = h
cause_by_file a b fault.DiskFault h = h
cause_by_file a b fault.Memory h = h

pub cause_by_length : (a b : Taped) (e : FileError) → IsCause a b (cause_of_length e) → IsCause a b (cause_of_stop (stop_of_file e))
cause_by_length a b (fault.Misled place at wanted found) h = h
cause_by_length a b (fault.Beyond length) h = absurd h
cause_by_length a b fault.DiskFault h = h
cause_by_length a b fault.Memory h = h

-- a refusal, where the call answers it, isn't by a device
abbrev pub IsRefusal : Cause → Type 0
IsRefusal disk = ⊥
IsRefusal keyboard = ⊥
IsRefusal display = ⊥
IsRefusal other = Unit {0}
IsRefusal never = Unit {0}

pub cause_of_refusal : (cause : Cause) (a b : Taped) → IsRefusal cause → IsCause a b cause → Unfailed a b
cause_of_refusal disk a b refusal h = absurd refusal
cause_of_refusal keyboard a b refusal h = absurd refusal
cause_of_refusal display a b refusal h = absurd refusal
cause_of_refusal other a b refusal h = h
cause_of_refusal never a b refusal h = absurd h

pub cause_by_dir : (absent taken full : Cause) → IsRefusal absent → IsRefusal taken → IsRefusal full → (a b : Taped) (e : DirError) → IsCause a b (cause_of absent taken full e) → IsCause a b (cause_of_stop (stop_of_dir e))
cause_by_dir absent taken full x y z a b NoSuchName h = cause_of_refusal absent a b x h
cause_by_dir absent taken full x y z a b NameTaken h = cause_of_refusal taken a b y h
cause_by_dir absent taken full x y z a b (NoSlot largest) h = cause_of_refusal full a b z h
cause_by_dir absent taken full x y z a b (File e) h = cause_by_length a b e h

pub cause_by_alloc : (a b : Taped) (e : AllocError) → IsCause a b (cause_of_alloc e) → IsCause a b (cause_of_stop (stop_of_alloc e))
cause_by_alloc a b (alloc.Full needed free) h = h
cause_by_alloc a b alloc.DiskFault h = h
cause_by_alloc a b alloc.Memory h = h

pub cause_by_desc : (spent : Cause) → IsRefusal spent → (a b : Taped) (e : DescError) → IsCause a b (desc_answers.cause_of spent e) → IsCause a b (cause_of_stop (stop_of_desc e))
cause_by_desc spent x a b (desc.Spent last) h = cause_of_refusal spent a b x h
cause_by_desc spent x a b (desc.Held at found) h = h
cause_by_desc spent x a b desc.DiskFault h = h
cause_by_desc spent x a b desc.Memory h = h

pub cause_by_look : (a b : Taped) (e : LookError) → IsCause a b (cause_of_look e) → IsCause a b (cause_of_stop (stop_of_look e))
cause_by_look a b look.DiskFault h = h
cause_by_look a b look.Memory h = h

-- of a refusal
pub cause_refused : {U : Type 0} (a b : Taped) (e : Stop) (x : Refusal) (r : Result U Stop) → IsErrAnd r (λ y. y ≡ e) → e ≡ stop.Refused x → Unfailed a b → HasCause cause_of_stop a b r
cause_refused a b e x r is refuses none = cause_passed a b e r is (subst (λ s. IsCause a b (cause_of_stop s)) (sym refuses) none)

-- ---- memory was left, where the call that failed says so
wanted_by_file : (e : FileError) → stop_of_file e ≡ stop.Memory → e ≡ fault.Memory
wanted_by_file (fault.Misled place at wanted found) is = cc
wanted_by_file (fault.Beyond length) is = cc
wanted_by_file fault.DiskFault is = cc
wanted_by_file fault.Memory is = refl

wanted_by_dir : (e : DirError) → stop_of_dir e ≡ stop.Memory → e ≡ out_of_memory
wanted_by_dir NoSuchName is = cc
wanted_by_dir NameTaken is = cc
wanted_by_dir (NoSlot largest) is = cc
wanted_by_dir (File e) is = ap File (wanted_by_file e is)

error_of : {U : Type 0} {e s : Stop} (r : Result U Stop) → IsErrAnd r (λ x. x ≡ e) → IsErrOf r s → e ≡ s
error_of {U} {e} {s} r is of = let both : ◌≡◌ {A = Result U Stop} (Err e) (Err s) = sym (error_is r is) ∙ of in cc

pub not_wanted : {U : Type 0} (T : Type 0) (e : Stop) (r : Result U Stop) → IsErrAnd r (λ x. x ≡ e) → (IsErrOf {T = T} (Err e) stop.Memory → ⊥) → IsErrOf r stop.Memory → ⊥
not_wanted T e r is left of = left (ap Err (error_of r is of))

pub not_wanted_by_file : {U : Type 0} (T : Type 0) (e : FileError) (r : Result U Stop) → IsErrAnd r (λ x. x ≡ stop_of_file e) → (IsErrOf {T = T} (Err e) fault.Memory → ⊥) → IsErrOf r stop.Memory → ⊥
not_wanted_by_file T e r is left of = left (ap Err (wanted_by_file e (error_of r is of)))

pub not_wanted_by_dir : {U : Type 0} (T : Type 0) (e : DirError) (r : Result U Stop) → IsErrAnd r (λ x. x ≡ stop_of_dir e) → (IsErrOf {T = T} (Err e) out_of_memory → ⊥) → IsErrOf r stop.Memory → ⊥
not_wanted_by_dir T e r is left of = left (ap Err (wanted_by_dir e (error_of r is of)))

-- a refusal isn't
pub refused_unwanted : {U : Type 0} (r : Result U Stop) (x : Refusal) → r ≡ Err (stop.Refused x) → IsErrOf r stop.Memory → ⊥
refused_unwanted {U} r x is of = let both : ◌≡◌ {A = Result U Stop} (Err (stop.Refused x)) (Err stop.Memory) = sym is ∙ of in cc

pub not_wanted_refused : {U : Type 0} (e : Stop) (x : Refusal) (r : Result U Stop) → IsErrAnd r (λ y. y ≡ e) → e ≡ stop.Refused x → IsErrOf r stop.Memory → ⊥
not_wanted_refused e x r is refuses of = let memory : e ≡ stop.Memory = error_of r is of in cc
