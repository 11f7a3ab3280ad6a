-- What a pack that isn't read answers.
use Rattle.std.proofs.Common.{◌≡◌, Err, List, Ok, Option, Result, ℕ, refl}
use Rattle.disk_records.specs.Causes.{IsCause}
use Rattle.disk_records.specs.Tapes.{Taped}
use Rattle.disk_records.specs.declared.records.Page.{Page}
use Rattle.disk_records.specs.declared.records.Place.{Place}
use Rattle.page_seeking.specs.Causes.{cause_of_file}
use Rattle.page_seeking.specs.Refs.{IfBeyond, IfMisled}
use Rattle.page_seeking.specs.declared.refs.FileError.{FileError}
use Rattle.page_seeking.specs.declared.refs.FileError.TheVariants as file
use Rattle.disk_descriptor.specs.Opening.{IfBadDescriptor, IfNotClean, IfOpenMisled, IfWrongLength, cause_of_opening, open_error}
use Rattle.disk_descriptor.specs.declared.errors.OpenError.{OpenError}
use Rattle.disk_descriptor.specs.declared.errors.OpenError.TheVariants.{BadDescriptor, DiskFault, Memory, Misled, NoDescriptor, NoRoot, NotClean, WrongLength}

-- once it was read, no hint misleads
pub open_misled : {T : Type 0} (r : Result T OpenError) (P : Place → ℕ → Page → Option (List ℕ) → Type 0) → IfOpenMisled r (λ place at wanted found. ⊥) → IfOpenMisled r P
open_misled (Ok x) P h = tt
open_misled (Err (NoRoot found)) P h = tt
open_misled (Err NoDescriptor) P h = tt
open_misled (Err (Misled place at wanted found)) P h = absurd h
open_misled (Err (WrongLength size)) P h = tt
open_misled (Err (BadDescriptor w found)) P h = tt
open_misled (Err (NotClean mark)) P h = tt
open_misled (Err DiskFault) P h = tt
open_misled (Err Memory) P h = tt

-- it isn't too short on a pack that is modelled
pub open_length : (T : Type 0) (P : ℕ → Type 0) (e : FileError) (o : OpenError) → o ≡ open_error e → IfBeyond {T = ℕ} (Err e) (λ n. ⊥) → IfWrongLength {T = T} (Err o) P
open_length T P (file.Misled place at wanted found) o is h = rw is tt
open_length T P (file.Beyond n) o is h = absurd h
open_length T P file.DiskFault o is h = rw is tt
open_length T P file.Memory o is h = rw is tt

-- no word and no mark is looked at
pub open_bad : (T : Type 0) (P : ℕ → ℕ → Type 0) (e : FileError) (o : OpenError) → o ≡ open_error e → IfBadDescriptor {T = T} (Err o) P
open_bad T P (file.Misled place at wanted found) o is = rw is tt
open_bad T P (file.Beyond n) o is = rw is tt
open_bad T P file.DiskFault o is = rw is tt
open_bad T P file.Memory o is = rw is tt

pub open_mark : (T : Type 0) (P : ℕ → Type 0) (e : FileError) (o : OpenError) → o ≡ open_error e → IfNotClean {T = T} (Err o) P
open_mark T P (file.Misled place at wanted found) o is = rw is tt
open_mark T P (file.Beyond n) o is = rw is tt
open_mark T P file.DiskFault o is = rw is tt
open_mark T P file.Memory o is = rw is tt

-- the hint is the one that misled
pub open_ok : (T : Type 0) (P : Place → ℕ → Page → Option (List ℕ) → Type 0) (e : FileError) (o : OpenError) → o ≡ open_error e → IfMisled {T = ℕ} (Err e) P → IfOpenMisled {T = T} (Err o) P
open_ok T P (file.Misled place at wanted found) o is h = rw is h
open_ok T P (file.Beyond n) o is h = rw is tt
open_ok T P file.DiskFault o is h = rw is tt
open_ok T P file.Memory o is h = rw is tt

pub open_caused : (a b : Taped) (e : FileError) (o : OpenError) → o ≡ open_error e → IsCause a b (cause_of_file e) → IsCause a b (cause_of_opening o)
open_caused a b (file.Misled place at wanted found) o is h = rw is h
open_caused a b (file.Beyond n) o is h = rw is h
open_caused a b file.DiskFault o is h = rw is h
open_caused a b file.Memory o is h = rw is h

pub open_want : (e : FileError) (o : OpenError) → o ≡ open_error e → o ≡ Memory → e ≡ file.Memory
open_want (file.Misled place at wanted found) o is m = absurd cc
open_want (file.Beyond n) o is m = absurd cc
open_want file.DiskFault o is m = absurd cc
open_want file.Memory o is m = refl
