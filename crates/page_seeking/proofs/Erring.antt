-- The answers of guarded calls as those of calls on files.
use Rattle.std.proofs.Common.{◌≡◌, ℕ, List, Option, Some, None, Result, Ok, Err, IfOk, OnOk}
use Rattle.disk_records.specs.declared.records.Page.{Page}
use Rattle.label_check.specs.declared.errors.GuardError.{GuardError}
use Rattle.label_check.specs.declared.errors.GuardError.TheVariants as guard
use Rattle.label_check.specs.Guarded.{IfWrong}
use Rattle.disk_records.specs.declared.records.Place.{Place}
use Rattle.page_seeking.specs.declared.refs.FileError.{FileError}
use Rattle.page_seeking.specs.declared.refs.FileError.TheVariants.{Misled, Beyond, DiskFault, Memory}
use Rattle.page_seeking.specs.Refs.{IfBeyond, IfMisled}
use Rattle.label_check.specs.declared.errors.LookError.{LookError}
use Rattle.disk_records.specs.Causes.{IsCause}
use Rattle.disk_records.specs.Tapes.{Taped}
use Rattle.page_seeking.specs.Causes.{cause_of_file, cause_of_length}
use Rattle.page_seeking.specs.declared.seek.Found.{Found}
use Rattle.page_seeking.specs.Inside.{IfFound, error_at}

pub at_wrong : (T U : Type 0) {place : Place} {at : ℕ} {wanted : Page} {e : FileError} (P : Place → ℕ → Page → Option (List ℕ) → Type 0) (Q : Option (List ℕ) → Type 0) (error : GuardError)
    → e ≡ error_at place at wanted error → IfWrong {T = U} (Err error) Q → ((found : Option (List ℕ)) → Q found → P place at wanted found) → IfMisled {T = T} (Err e) P
at_wrong T U P Q (guard.Wrong found) is wrong h = rw is (h found wrong)
at_wrong T U P Q guard.DiskFault is wrong h = rw is tt
at_wrong T U P Q guard.Memory is wrong h = rw is tt

-- the place is the hint's own, whatever was found
pub at_place : (T : Type 0) (P : Place → Type 0) (place : Place) (at : ℕ) (wanted : Page) (e : FileError) (error : GuardError) → e ≡ error_at place at wanted error → P place → IfMisled {T = T} (Err e) (λ p a w found. P p)
at_place T P place at wanted e (guard.Wrong found) is h = rw is h
at_place T P place at wanted e guard.DiskFault is h = rw is tt
at_place T P place at wanted e guard.Memory is h = rw is tt

pub if_ok_map : {T E : Type 0} {P Q : T → Type 0} (result : Result T E) → IfOk result P → ((x : T) → P x → Q x) → IfOk result Q
if_ok_map (Ok x) p f = f x p
if_ok_map (Err e) p f = tt

pub if_ok_both : {T E : Type 0} {P Q R : T → Type 0} (result : Result T E) → IfOk result P → IfOk result Q → ((x : T) → P x → Q x → R x) → IfOk result R
if_ok_both (Ok x) p q f = f x p q
if_ok_both (Err e) p q f = tt

pub if_misled_map : {T : Type 0} {P Q : Place → ℕ → Page → Option (List ℕ) → Type 0} (result : Result T FileError) → IfMisled result P → ((place : Place) (at : ℕ) (wanted : Page) (found : Option (List ℕ)) → P place at wanted found → Q place at wanted found) → IfMisled result Q
if_misled_map (Ok x) p f = tt
if_misled_map (Err (Misled place at wanted found)) p f = f place at wanted found p
if_misled_map (Err (Beyond length)) p f = tt
if_misled_map (Err DiskFault) p f = tt
if_misled_map (Err Memory) p f = tt

pub if_beyond_map : {T : Type 0} {P Q : ℕ → Type 0} (result : Result T FileError) → IfBeyond result P → ((n : ℕ) → P n → Q n) → IfBeyond result Q
if_beyond_map (Ok x) p f = tt
if_beyond_map (Err (Misled place at wanted found)) p f = tt
if_beyond_map (Err (Beyond n)) p f = f n p
if_beyond_map (Err DiskFault) p f = tt
if_beyond_map (Err Memory) p f = tt

pub if_found_map : {P Q : Found → Type 0} (result : Result (Option Found) LookError) → IfFound result P → ((f : Found) → P f → Q f) → IfFound result Q
if_found_map (Ok (Some f)) p h = h f p
if_found_map (Ok None) p h = tt
if_found_map (Err e) p h = tt

-- what holds at each answer, and what another fact makes of it
pub on_ok : {T E P : Type 0} (result : Result T E) → P → OnOk result P
on_ok (Ok x) p = p
on_ok (Err e) p = tt

pub on_ok_map : {T E P Q : Type 0} (result : Result T E) → (P → Q) → OnOk result P → OnOk result Q
on_ok_map (Ok x) f p = f p
on_ok_map (Err e) f p = tt

pub on_ok_thrice : {T E R : Type 0} {P Q S : T → Type 0} (result : Result T E) → IfOk result P → IfOk result Q → IfOk result S → ((x : T) → P x → Q x → S x → R) → OnOk result R
on_ok_thrice (Ok x) p q s f = f x p q s
on_ok_thrice (Err e) p q s f = tt

-- the cause of a call that never answers Beyond
pub caused_length : (T : Type 0) (a b : Taped) (error : FileError) → IsCause a b (cause_of_file error) → IfBeyond {T = T} (Err error) (λ n. ⊥) → IsCause a b (cause_of_length error)
caused_length T a b (Misled place at wanted found) h never = h
caused_length T a b (Beyond length) h never = never
caused_length T a b DiskFault h never = h
caused_length T a b Memory h never = h
