-- Which hints are answered that misled, on every machine.
use Rattle.std.proofs.Common.{◌≡◌, ℕ, List, Option, Err}
use Rattle.disk_records.specs.declared.records.Page.{Page}
use Rattle.disk_records.specs.declared.records.Place.{Place}
use Rattle.label_check.specs.declared.errors.GuardError.{GuardError}
use Rattle.label_check.specs.declared.errors.GuardError.TheVariants as guard
use Rattle.page_seeking.specs.Inside.{error_at}
use Rattle.page_seeking.specs.Refs.{IfMisled}
use Rattle.page_seeking.specs.declared.refs.FileError.{FileError}

-- the place, the address and the page of a guarded command that misled
pub wrong_at : (T : Type 0) (P : Place → ℕ → Page → Option (List ℕ) → Type 0) (error : GuardError) (place : Place) (at : ℕ) (wanted : Page) (e : FileError) → e ≡ error_at place at wanted error → ((found : Option (List ℕ)) → P place at wanted found) → IfMisled {T = T} (Err e) P
wrong_at T P (guard.Wrong found) place at wanted e same here = rw same (here found)
wrong_at T P guard.DiskFault place at wanted e same here = rw same tt
wrong_at T P guard.Memory place at wanted e same here = rw same tt
