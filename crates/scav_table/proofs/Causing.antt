-- The error of a call that is passed on.
use Rattle.std.proofs.Common.{◌∙◌, Result, Ok, Err, refl, ap, sym, subst}
use Rattle.std.specs.Prelude.{◌≡◌, Bool, IsErrAnd, IsErrOf, IsTrue}
use Rattle.disk_records.specs.Causes.{HasCause, IsCause, Unfailed}
use Rattle.disk_records.specs.Tapes.{Rose, Taped}
use Rattle.label_check.specs.Causes.{cause_of_look}
use Rattle.label_check.specs.declared.errors.LookError.{LookError}
use Rattle.label_check.specs.declared.errors.LookError.TheVariants as look
use Rattle.scav_table.specs.Causes.{cause_of_sweep, error_of_look}
use Rattle.scav_table.specs.declared.errors.SweepError.{SweepError}
use Rattle.scav_table.specs.declared.errors.SweepError.TheVariants.{DiskFault, Memory}

-- its cause
pub cause_of_call : {T : Type 0} (a b : Taped) (e : SweepError) (result : Result T SweepError) → IsCause a b (cause_of_sweep e) → IsErrAnd result (λ s. s ≡ e) → HasCause cause_of_sweep a b result
cause_of_call a b e (Ok x) h is = absurd is
cause_of_call a b e (Err s) h is = subst (λ x. IsCause a b (cause_of_sweep x)) (sym is) h

-- that of a look, after what was done before it, in which no fault came
sooner : (first a b : Taped) (e : LookError) → Unfailed first a → IsCause a b (cause_of_look e) → IsCause first b (cause_of_sweep (error_of_look e))
sooner first a b look.DiskFault none h = subst (λ n. Rose n b.disk_faults) none h
sooner first a b look.Memory none h = h ∙ none

pub cause_of_looked : {T : Type 0} (first a b : Taped) (e : LookError) (result : Result T SweepError) → Unfailed first a → IsCause a b (cause_of_look e) → IsErrAnd result (λ s. s ≡ error_of_look e) → HasCause cause_of_sweep first b result
cause_of_looked first a b e result none h is = cause_of_call first b (error_of_look e) result (sooner first a b e none h) is

-- a call that isn't out of memory on a machine that is modelled
pub want_of_call : {S T : Type 0} {told : Bool} (e : SweepError) (result : Result T SweepError) → (IsTrue told → IsErrOf {T = S} (Err e) Memory → ⊥) → IsErrAnd result (λ s. s ≡ e) → IsTrue told → IsErrOf result Memory → ⊥
want_of_call e (Ok x) want is told memory = absurd is
want_of_call e (Err s) want is told memory = let same : e ≡ Memory = cc in want told (ap Err same)

pub want_of_looked : {S T : Type 0} {told : Bool} (e : LookError) (result : Result T SweepError) → (IsTrue told → IsErrOf {T = S} (Err e) look.Memory → ⊥) → IsErrAnd result (λ s. s ≡ error_of_look e) → IsTrue told → IsErrOf result Memory → ⊥
want_of_looked e (Ok x) want is told memory = absurd is
want_of_looked look.DiskFault (Err s) want is told memory = (let wrong : DiskFault ≡ Memory = cc in cc)
want_of_looked look.Memory (Err s) want is told memory = want told refl
