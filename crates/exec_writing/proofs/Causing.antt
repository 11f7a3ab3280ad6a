-- Causes of the errors of calls that put bytes and that list slots, and answers that are no refusal.
use Rattle.std.proofs.Common.{Result, Ok, Err}
use Rattle.disk_records.specs.Causes.{HasCause, IsCause}
use Rattle.disk_records.specs.Tapes.{Taped}
use Rattle.page_seeking.specs.Causes.{cause_of_file}
use Rattle.page_seeking.specs.declared.refs.FileError.{FileError}
use Rattle.page_seeking.specs.declared.refs.FileError.TheVariants as fault
use Rattle.page_seeking.specs.declared.refs.FileRef.{FileRef}
use Rattle.directory.specs.Errors.{cause_of_list}
use Rattle.directory.specs.declared.errors.ListError.{ListError}
use Rattle.directory.specs.declared.errors.ListError.TheVariants as listing
use Rattle.exec_words.specs.declared.reply.Refusal.{Refusal}
use Rattle.exec_session.specs.declared.stop.Stop.{Stop}
use Rattle.exec_session.specs.declared.stop.Stop.TheVariants as stop
use Rattle.exec_session.specs.Meant.{IfRefused}
use Rattle.exec_session.specs.Stops.{cause_of_stop, stop_of_list, stop_written}

-- what refuses nothing
pub refuses_none : {U : Type 0} (P : Refusal → Type 0) (r : Result U Stop) → IfRefused r (λ x. ⊥) → IfRefused r P
refuses_none P (Ok x) h = tt
refuses_none P (Err (stop.Refused x)) h = absurd h
refuses_none P (Err (stop.Misled place at wanted found)) h = tt
refuses_none P (Err stop.DiskFault) h = tt
refuses_none P (Err stop.Memory) h = tt

-- the cause of an error of a call that puts bytes
pub put_cause : (a b : Taped) (file : FileRef) (result : Result (Unit {0}) FileError) → HasCause cause_of_file a b result → HasCause cause_of_stop a b (stop_written file result)
put_cause a b file (Ok x) h = h
put_cause a b file (Err (fault.Misled place at wanted found)) h = h
put_cause a b file (Err (fault.Beyond length)) h = h
put_cause a b file (Err fault.DiskFault) h = h
put_cause a b file (Err fault.Memory) h = h

-- and of one that lists slots
pub list_cause : (a b : Taped) (e : ListError) → IsCause a b (cause_of_list e) → IsCause a b (cause_of_stop (stop_of_list e))
list_cause a b (listing.File (fault.Misled place at wanted found)) h = h
list_cause a b (listing.File (fault.Beyond length)) h = absurd h
list_cause a b (listing.File fault.DiskFault) h = h
list_cause a b (listing.File fault.Memory) h = absurd h
list_cause a b listing.Memory h = h
