-- The cause of the error of a scavenge: that of its last part, or of a part that ends it early.
use Rattle.std.proofs.Common.{◌∙◌, Result, Ok, Err, sym, subst}
use Rattle.std.specs.Prelude.{◌≡◌, IsErrAnd}
use Rattle.disk_records.specs.Causes.{HasCause, IsCause, Unfailed, never}
use Rattle.disk_records.specs.Tapes.{DiskAlone, Rose, Taped}
use Rattle.disk_descriptor.specs.declared.errors.DescError.{DescError}
use Rattle.disk_descriptor.specs.declared.errors.DescError.TheVariants as desc
use Rattle.disk_descriptor.specs.Answers.{cause_of}
use Rattle.scav_table.specs.Causes.{cause_of_sweep}
use Rattle.scav_table.specs.declared.errors.SweepError.{SweepError}
use Rattle.scav_table.specs.declared.errors.SweepError.TheVariants as sweep
use Rattle.scav_pages.specs.Stops.{cause_of_stop}
use Rattle.scav_pages.specs.declared.errors.Stop.{Stop}
use Rattle.scav_pages.specs.declared.errors.Stop.TheVariants as stop
use Rattle.scav_pages.proofs.Doing.{error_is}
use Rattle.scavenger.specs.declared.errors.ScavError.{ScavError}
use Rattle.scavenger.specs.declared.errors.ScavError.TheVariants.{RootBad, RootTaken, PackFull, DiskFault, Memory}
use Rattle.scavenger.specs.Answers.{cause_of_scav, error_of_stop, error_of_sweep, stop_of_write}

-- a fault of the last part comes in the call, and no other came
pub cause_sooner : {T : Type 0} (first a b : Taped) (r : Result T ScavError) → Unfailed first a → HasCause cause_of_scav a b r → HasCause cause_of_scav first b r
cause_sooner first a b (Ok x) none h = h ∙ none
cause_sooner first a b (Err (RootBad header)) none h = h ∙ none
cause_sooner first a b (Err (RootTaken found)) none h = h ∙ none
cause_sooner first a b (Err (PackFull needed free)) none h = h ∙ none
cause_sooner first a b (Err DiskFault) none h = subst (λ n. Rose n b.disk_faults) none h
cause_sooner first a b (Err Memory) none h = h ∙ none

-- ---- the error of a part that is passed on, after what was done before it, in which no fault came
passed_on : {first a b : Taped} {T : Type 0} (e : ScavError) (result : Result T ScavError) → DiskAlone first a → Unfailed first a → DiskAlone a b → IsCause a b (cause_of_scav e) → IsErrAnd result (λ s. s ≡ e) → HasCause cause_of_scav first b result
passed_on {first} {a} {b} {T} e result before none part h is = subst (HasCause cause_of_scav first b) (sym (error_is result is)) (cause_sooner {T = T} first a b (Err e) none h)

-- of the end of a pass
by_stop : (a b : Taped) (e : Stop) → IsCause a b (cause_of_stop e) → IsCause a b (cause_of_scav (error_of_stop e))
by_stop a b stop.DiskFault h = h
by_stop a b stop.Memory h = h
by_stop a b stop.Astray h = h

pub cause_of_stopped : {first a b : Taped} {T : Type 0} (e : Stop) (result : Result T ScavError) → DiskAlone first a → Unfailed first a → DiskAlone a b → IsCause a b (cause_of_stop e) → IsErrAnd result (λ s. s ≡ error_of_stop e) → HasCause cause_of_scav first b result
cause_of_stopped {a = a} {b = b} e result before none part h is = passed_on (error_of_stop e) result before none part (by_stop a b e h) is

-- of a sweep
by_sweep : (a b : Taped) (e : SweepError) → IsCause a b (cause_of_sweep e) → IsCause a b (cause_of_scav (error_of_sweep e))
by_sweep a b sweep.DiskFault h = h
by_sweep a b sweep.Memory h = h

pub cause_of_unswept : {first a b : Taped} {T : Type 0} (e : SweepError) (result : Result T ScavError) → DiskAlone first a → Unfailed first a → DiskAlone a b → IsCause a b (cause_of_sweep e) → IsErrAnd result (λ s. s ≡ error_of_sweep e) → HasCause cause_of_scav first b result
cause_of_unswept {a = a} {b = b} e result before none part h is = passed_on (error_of_sweep e) result before none part (by_sweep a b e h) is

-- ---- the error of writing DiskDescriptor's pages, which never answers that serials are spent
pub cause_of_write : (a b : Taped) (e : DescError) → IsCause a b (cause_of never e) → IsCause a b (cause_of_stop (stop_of_write e))
cause_of_write a b (desc.Spent last) h = absurd h
cause_of_write a b (desc.Held at found) h = h
cause_of_write a b desc.DiskFault h = h
cause_of_write a b desc.Memory h = h
