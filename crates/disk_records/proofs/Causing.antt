-- Causes of calls one after another.
use Rattle.std.proofs.Common.{◌∙◌, Err, Ok, Result, subst}
use Rattle.disk_records.specs.Causes.{Cause, IsCause, HasCause, Unfailed, disk, keyboard, display, other, never}
use Rattle.disk_records.specs.Tapes.{Taped, DiskAlone, Rose}

-- after calls in which no fault of the disk came, the cause of the next one is that of all of them
pub is_cause_after : {a b : Taped} (c : Taped) → DiskAlone a b → Unfailed a b → (cause : Cause) → IsCause b c cause → IsCause a c cause
is_cause_after c x none disk is = subst (λ n. Rose n c.disk_faults) none is
is_cause_after c x none keyboard is = subst (λ n. Rose n c.key_faults) x.key_faults is
is_cause_after c x none display is = subst (λ n. Rose n c.show_faults) x.show_faults is
is_cause_after c x none other is = is ∙ none
is_cause_after c x none never is = absurd is

pub cause_after : {T E : Type 0} (cause_of : E → Cause) {a b : Taped} (c : Taped) (result : Result T E) → DiskAlone a b → Unfailed a b → HasCause cause_of b c result → HasCause cause_of a c result
cause_after cause_of c (Ok x) y none is = is ∙ none
cause_after cause_of c (Err error) y none is = is_cause_after c y none (cause_of error) is
