-- The cause of the error of a call: that of its last part, or of a part that ends it early.
use Rattle.std.proofs.Common.{◌∙◌, Result, Ok, Err, sym, subst}
use Rattle.std.specs.Prelude.{◌≡◌, IsErrAnd}
use Rattle.disk_records.specs.Causes.{HasCause, IsCause, Unfailed}
use Rattle.disk_records.specs.Tapes.{DiskAlone, Rose, Taped}
use Rattle.label_check.specs.Causes.{cause_of_guard, cause_of_look}
use Rattle.label_check.specs.declared.errors.GuardError.{GuardError}
use Rattle.label_check.specs.declared.errors.GuardError.TheVariants as guard
use Rattle.label_check.specs.declared.errors.LookError.{LookError}
use Rattle.label_check.specs.declared.errors.LookError.TheVariants as look
use Rattle.scav_table.specs.Causes.{cause_of_sweep}
use Rattle.scav_table.specs.declared.errors.SweepError.{SweepError}
use Rattle.scav_table.specs.declared.errors.SweepError.TheVariants as sweep
use Rattle.scav_pages.specs.declared.errors.Stop.{Stop}
use Rattle.scav_pages.specs.declared.errors.Stop.TheVariants.{DiskFault, Memory, Astray}
use Rattle.scav_pages.specs.Stops.{cause_of_stop, stop_of_guard, stop_of_look, stop_of_sweep}

-- a fault of the last part comes in the call, and no other came
pub cause_sooner : {T : Type 0} (first a b : Taped) (r : Result T Stop) → Unfailed first a → HasCause cause_of_stop a b r → HasCause cause_of_stop first b r
cause_sooner first a b (Ok x) none h = h ∙ none
cause_sooner first a b (Err DiskFault) none h = subst (λ n. Rose n b.disk_faults) none h
cause_sooner first a b (Err Memory) none h = h ∙ none
cause_sooner first a b (Err Astray) none h = h ∙ none

-- ---- the error of a part that is passed on, after what was done before it, in which no fault came
-- of another part of the Scavenger's work
pub cause_of_part : {first a b : Taped} {T : Type 0} (e : Stop) (result : Result T Stop) → DiskAlone first a → Unfailed first a → DiskAlone a b → IsCause a b (cause_of_stop e) → IsErrAnd result (λ s. s ≡ e) → HasCause cause_of_stop first b result
cause_of_part e (Ok x) before none part h is = absurd is
cause_of_part {first} {a} {b} {T} e (Err s) before none part h is = cause_sooner {T = T} first a b (Err s) none (subst (λ x. IsCause a b (cause_of_stop x)) (sym is) h)

-- of a guarded command
cause_by_guard : (a b : Taped) (e : GuardError) → IsCause a b (cause_of_guard e) → IsCause a b (cause_of_stop (stop_of_guard e))
cause_by_guard a b (guard.Wrong found) h = h
cause_by_guard a b guard.DiskFault h = h
cause_by_guard a b guard.Memory h = h

pub cause_of_guarded : {first a b : Taped} {T : Type 0} (e : GuardError) (result : Result T Stop) → DiskAlone first a → Unfailed first a → DiskAlone a b → IsCause a b (cause_of_guard e) → IsErrAnd result (λ s. s ≡ stop_of_guard e) → HasCause cause_of_stop first b result
cause_of_guarded {a = a} {b = b} e result before none part h is = cause_of_part (stop_of_guard e) result before none part (cause_by_guard a b e h) is

-- of a look
cause_by_look : (a b : Taped) (e : LookError) → IsCause a b (cause_of_look e) → IsCause a b (cause_of_stop (stop_of_look e))
cause_by_look a b look.DiskFault h = h
cause_by_look a b look.Memory h = h

pub cause_of_looked : {first a b : Taped} {T : Type 0} (e : LookError) (result : Result T Stop) → DiskAlone first a → Unfailed first a → DiskAlone a b → IsCause a b (cause_of_look e) → IsErrAnd result (λ s. s ≡ stop_of_look e) → HasCause cause_of_stop first b result
cause_of_looked {a = a} {b = b} e result before none part h is = cause_of_part (stop_of_look e) result before none part (cause_by_look a b e h) is

-- of a sweep
cause_by_sweep : (a b : Taped) (e : SweepError) → IsCause a b (cause_of_sweep e) → IsCause a b (cause_of_stop (stop_of_sweep e))
cause_by_sweep a b sweep.DiskFault h = h
cause_by_sweep a b sweep.Memory h = h

pub cause_of_swept : {first a b : Taped} {T : Type 0} (e : SweepError) (result : Result T Stop) → DiskAlone first a → Unfailed first a → DiskAlone a b → IsCause a b (cause_of_sweep e) → IsErrAnd result (λ s. s ≡ stop_of_sweep e) → HasCause cause_of_stop first b result
cause_of_swept {a = a} {b = b} e result before none part h is = cause_of_part (stop_of_sweep e) result before none part (cause_by_sweep a b e h) is
