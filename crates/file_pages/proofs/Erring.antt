-- The errors of guarded commands as those of calls.
use Rattle.std.proofs.Common.{Err, IsErrOf, List, Option, ap, arith, inl, inr, refl, sym, ℕ, ◌∙◌, ◌≡◌}
use Rattle.alto_words.specs.declared.fid.Fid.{Fid}
use Rattle.disk_records.specs.Causes.{IsCause, Unfailed}
use Rattle.disk_records.specs.Packs.{Pack}
use Rattle.disk_records.specs.Tapes.{Taped, pack}
use Rattle.disk_records.specs.declared.records.Page.{Page}
use Rattle.disk_records.specs.declared.records.Place.{Place}
use Rattle.disk_records.specs.declared.records.Place.TheVariants.{Held}
use Rattle.label_check.specs.Causes.{cause_of_guard}
use Rattle.label_check.specs.Guarded.{FoundWrong, IfWrong}
use Rattle.label_check.specs.declared.errors.GuardError.TheVariants as guard
use Rattle.label_check.specs.declared.errors.GuardError.{GuardError}
use Rattle.page_seeking.specs.Causes.{cause_of_file, cause_of_length}
use Rattle.page_seeking.specs.Refs.{IfBeyond, IfMisled}
use Rattle.page_seeking.specs.declared.refs.FileError.TheVariants as file
use Rattle.page_seeking.specs.declared.refs.FileError.{FileError}
use Rattle.page_seeking.specs.declared.refs.FileRef.{FileRef}
use Rattle.file_pages.specs.Calls.{IsHintOrFound, IsLinkOrFound, WasFound, WasHeld}
use Rattle.file_pages.specs.Inside.{error_at}

pub memory_of : (error : GuardError) (place : Place) (held : ℕ) (wanted : Page) (e : FileError) → e ≡ error_at place held wanted error → IsErrOf {T = Unit {0}} (Err e) file.Memory → IsErrOf {T = Unit {0}} (Err error) guard.Memory
memory_of (guard.Wrong found) place held wanted e same memory = absurd cc
memory_of guard.DiskFault place held wanted e same memory = absurd cc
memory_of guard.Memory place held wanted e same memory = refl

pub fault_of : (e : FileError) → e ≡ file.DiskFault → IsErrOf {T = Unit {0}} (Err e) file.DiskFault
fault_of e same = rw same refl

-- where the guard holds, nothing misleads
pub never_misled : (holds : Pack → Type 0) (at : ℕ) (a b : Taped) (error : GuardError) (place : Place) (held : ℕ) (wanted : Page) (e : FileError) → e ≡ error_at place held wanted error
    → IfWrong {T = Unit {0}} (Err error) (FoundWrong holds at a b) → holds (pack a) → IfMisled {T = Unit {0}} (Err e) (λ place at wanted found. ⊥)
never_misled holds at a b (guard.Wrong found) place held wanted e same wrong held_then = absurd (wrong.failed held_then)
never_misled holds at a b guard.DiskFault place held wanted e same wrong held_then = rw same tt
never_misled holds at a b guard.Memory place held wanted e same wrong held_then = rw same tt

-- an error of a later call has its cause in the whole
pub caused_later : (a b c : Taped) (error : GuardError) (place : Place) (held : ℕ) (wanted : Page) (e : FileError) → e ≡ error_at place held wanted error → Unfailed a b → IsCause b c (cause_of_guard error) → IsCause a c (cause_of_length e)
caused_later a b c (guard.Wrong found) place held wanted e same none cause = rw same (cause ∙ none)
caused_later a b c guard.DiskFault place held wanted e same none cause = rw same (omega (arith, none, cause))
caused_later a b c guard.Memory place held wanted e same none cause = rw same (cause ∙ none)

pub cause_after : (a b c : Taped) (e : FileError) → Unfailed a b → IsCause b c (cause_of_length e) → IsCause a c (cause_of_length e)
cause_after a b c (file.Misled place at wanted found) none cause = cause ∙ none
cause_after a b c (file.Beyond length) none cause = cause
cause_after a b c file.DiskFault none cause = omega (arith, none, cause)
cause_after a b c file.Memory none cause = cause ∙ none

-- what never misleads misleads in no way
pub none_misled : (P : Place → ℕ → Page → Option (List ℕ) → Type 0) (e : FileError) → IfMisled {T = Unit {0}} (Err e) (λ place at wanted found. ⊥) → IfMisled {T = Unit {0}} (Err e) P
none_misled P (file.Misled place at wanted found) never = absurd never
none_misled P (file.Beyond length) never = tt
none_misled P file.DiskFault never = tt
none_misled P file.Memory never = tt

-- what holds anyway
pub any_misled : (X : Type 0) (e : FileError) → X → IfMisled {T = Unit {0}} (Err e) (λ place at wanted found. X)
any_misled X (file.Misled place at wanted found) h = h
any_misled X (file.Beyond length) h = tt
any_misled X file.DiskFault h = tt
any_misled X file.Memory h = tt

-- out of memory, whatever the call would answer
pub memory_too : (T : Type 0) (e : FileError) → IsErrOf {T = Unit {0}} (Err e) file.Memory → IsErrOf {T = T} (Err e) file.Memory
memory_too T (file.Misled place at wanted found) is = absurd cc
memory_too T (file.Beyond length) is = absurd cc
memory_too T file.DiskFault is = absurd cc
memory_too T file.Memory is = refl

-- an answer that is never Beyond
pub never_past : (T : Type 0) (a b : Taped) (e : FileError) → IsCause a b (cause_of_file e) → IfBeyond {T = T} (Err e) (λ length. ⊥) → IsCause a b (cause_of_length e)
never_past T a b (file.Misled place at wanted found) cause never = cause
never_past T a b (file.Beyond length) cause never = absurd never
never_past T a b file.DiskFault cause never = cause
never_past T a b file.Memory cause never = cause

-- the place, the address and the page of a guarded command that misled
pub wrong_at : (T : Type 0) (P : Place → ℕ → Page → Option (List ℕ) → Type 0) (error : GuardError) (place : Place) (at : ℕ) (wanted : Page) (e : FileError) → e ≡ error_at place at wanted error → ((found : Option (List ℕ)) → P place at wanted found) → IfMisled {T = T} (Err e) P
wrong_at T P (guard.Wrong found) place at wanted e same here = rw same (here found)
wrong_at T P guard.DiskFault place at wanted e same here = rw same tt
wrong_at T P guard.Memory place at wanted e same here = rw same tt

-- an address at which the call had found a page of the file
pub was_found : (f : Fid) (i : ℕ) (page : Page) → page.fid ≡ f → (place : Place) (at : ℕ) (wanted : Page) (found : Option (List ℕ)) → WasHeld i page place at wanted found → WasFound f place at wanted found
was_found f i page own place at wanted found x = record { held = x.held ∙ ap (λ (n : ℕ). Held n) (sym x.address); own = ap (λ (p : Page). p.fid) x.page_is ∙ own }

pub own_or_found : (file : FileRef) (place : Place) (at : ℕ) (wanted : Page) (found : Option (List ℕ)) → IsLinkOrFound file.fid place at wanted found → IsHintOrFound file place at wanted found
own_or_found file place at wanted found (inl x) = inl (inr x)
own_or_found file place at wanted found (inr x) = inr x
