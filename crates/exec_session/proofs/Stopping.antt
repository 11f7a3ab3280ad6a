-- What keeps a line from being done, by the answers of the calls that it makes.
use Rattle.std.proofs.Common.{◌≡◌, ◌≢◌, ℕ, List, Option, Result, Ok, Err, refl, sym, subst, ap, ◌∙◌}
use Rattle.std.specs.Result.{IsErrAnd}
use Rattle.disk_records.specs.Causes.{IsCause, never, other}
use Rattle.disk_records.specs.Tapes.{Taped}
use Rattle.disk_records.specs.declared.records.Page.{Page}
use Rattle.disk_records.specs.declared.records.Place.{Place}
use Rattle.exec_words.specs.declared.reply.Refusal.{Refusal}
use Rattle.exec_words.specs.declared.reply.Refusal.TheVariants as refusal
use Rattle.exec_words.specs.declared.reply.Reply.TheVariants as reply
use Rattle.label_check.specs.declared.errors.LookError.{LookError}
use Rattle.label_check.specs.declared.errors.LookError.TheVariants as look
use Rattle.page_seeking.specs.Causes.{cause_of_length}
use Rattle.page_seeking.specs.Refs as refs
use Rattle.page_seeking.specs.declared.refs.FileError.{FileError}
use Rattle.page_seeking.specs.declared.refs.FileError.TheVariants as fault
use Rattle.directory.specs.Errors.{IfMisled, cause_of}
use Rattle.directory.specs.declared.errors.DirError.{DirError}
use Rattle.directory.specs.declared.errors.DirError.TheVariants.{NoSuchName, NameTaken, NoSlot, File}
use Rattle.exec_session.specs.declared.stop.Stop.{Stop}
use Rattle.exec_session.specs.declared.stop.Stop.TheVariants as stop
use Rattle.exec_session.specs.Meant.{IfHint, IfRefused, stopped}
use Rattle.exec_session.specs.Stops.{stop_of_dir, stop_of_file, stop_of_look}

-- the error that an answer passes on
pub error_is : {U : Type 0} {s : Stop} (r : Result U Stop) → IsErrAnd r (λ x. x ≡ s) → r ≡ Err s
error_is (Ok x) is = absurd is
error_is (Err x) is = ap Err is

-- a refusal
pub refused_as : {U : Type 0} (P : Refusal → Type 0) (r : Result U Stop) (x : Refusal) → r ≡ Err (stop.Refused x) → P x → IfRefused r P
refused_as P r x is h = subst (λ y. IfRefused y P) (sym is) h

-- what is so whatever is refused
pub if_refused : {U : Type 0} (P : Type 0) (r : Result U Stop) → P → IfRefused r (λ x. P)
if_refused P (Ok x) h = tt
if_refused P (Err (stop.Refused x)) h = h
if_refused P (Err (stop.Misled place at wanted found)) h = tt
if_refused P (Err stop.DiskFault) h = tt
if_refused P (Err stop.Memory) h = tt

-- no scavenge is asked for
pub stopped_unscavenged : (x : Stop) → stopped x ≢ reply.Scavenge
stopped_unscavenged (stop.Refused r) is = cc
stopped_unscavenged (stop.Misled place at wanted found) is = cc
stopped_unscavenged stop.DiskFault is = cc
stopped_unscavenged stop.Memory is = cc

-- ---- of a call on a file
hint_by_file : (T U : Type 0) (P Q : Place → ℕ → Page → Option (List ℕ) → Type 0) (e : FileError) → ((place : Place) (at : ℕ) (wanted : Page) (found : Option (List ℕ)) → P place at wanted found → Q place at wanted found) → refs.IfMisled {T = T} (Err e) P → IfHint {T = U} (Err (stop_of_file e)) Q
hint_by_file T U P Q (fault.Misled place at wanted found) f h = f place at wanted found h
hint_by_file T U P Q (fault.Beyond length) f h = tt
hint_by_file T U P Q fault.DiskFault f h = tt
hint_by_file T U P Q fault.Memory f h = tt

pub hint_of_file : (T : Type 0) {U : Type 0} (P Q : Place → ℕ → Page → Option (List ℕ) → Type 0) (e : FileError) (r : Result U Stop) → IsErrAnd r (λ s. s ≡ stop_of_file e) → ((place : Place) (at : ℕ) (wanted : Page) (found : Option (List ℕ)) → P place at wanted found → Q place at wanted found) → refs.IfMisled {T = T} (Err e) P → IfHint r Q
hint_of_file T {U} P Q e r is f h = subst (λ x. IfHint x Q) (sym (error_is r is)) (hint_by_file T U P Q e f h)

-- one that never answers Beyond
unrefused_file : (U : Type 0) (P : Refusal → Type 0) (a b : Taped) (e : FileError) → IsCause a b (cause_of_length e) → IfRefused {T = U} (Err (stop_of_file e)) P
unrefused_file U P a b (fault.Misled place at wanted found) h = tt
unrefused_file U P a b (fault.Beyond length) h = absurd h
unrefused_file U P a b fault.DiskFault h = tt
unrefused_file U P a b fault.Memory h = tt

pub unrefused_by_file : {U : Type 0} (P : Refusal → Type 0) (a b : Taped) (e : FileError) (r : Result U Stop) → IsErrAnd r (λ s. s ≡ stop_of_file e) → IsCause a b (cause_of_length e) → IfRefused r P
unrefused_by_file {U} P a b e r is h = subst (λ x. IfRefused x P) (sym (error_is r is)) (unrefused_file U P a b e h)

-- one that answers Beyond only under a condition that never holds
unrefused_past : (T U : Type 0) (Q : ℕ → Type 0) (e : FileError) → ((n : ℕ) → Q n → ⊥) → refs.IfBeyond {T = T} (Err e) Q → IfRefused {T = U} (Err (stop_of_file e)) (λ r. ⊥)
unrefused_past T U Q (fault.Misled place at wanted found) f h = tt
unrefused_past T U Q (fault.Beyond length) f h = f length h
unrefused_past T U Q fault.DiskFault f h = tt
unrefused_past T U Q fault.Memory f h = tt

pub unrefused_within : (T : Type 0) {U : Type 0} (Q : ℕ → Type 0) (e : FileError) (r : Result U Stop) → IsErrAnd r (λ s. s ≡ stop_of_file e) → ((n : ℕ) → Q n → ⊥) → refs.IfBeyond {T = T} (Err e) Q → IfRefused r (λ r. ⊥)
unrefused_within T {U} Q e r is f h = subst (λ x. IfRefused x (λ r. ⊥)) (sym (error_is r is)) (unrefused_past T U Q e f h)

-- ---- of a call that looks a name up
hint_by_dir : (T U : Type 0) (P Q : Place → ℕ → Page → Option (List ℕ) → Type 0) (e : DirError) → ((place : Place) (at : ℕ) (wanted : Page) (found : Option (List ℕ)) → P place at wanted found → Q place at wanted found) → IfMisled {T = T} (Err e) P → IfHint {T = U} (Err (stop_of_dir e)) Q
hint_by_dir T U P Q NoSuchName f h = tt
hint_by_dir T U P Q NameTaken f h = tt
hint_by_dir T U P Q (NoSlot largest) f h = tt
hint_by_dir T U P Q (File e) f h = hint_by_file (Unit {0}) U P Q e f h

pub hint_of_dir : (T : Type 0) {U : Type 0} (P Q : Place → ℕ → Page → Option (List ℕ) → Type 0) (e : DirError) (r : Result U Stop) → IsErrAnd r (λ s. s ≡ stop_of_dir e) → ((place : Place) (at : ℕ) (wanted : Page) (found : Option (List ℕ)) → P place at wanted found → Q place at wanted found) → IfMisled {T = T} (Err e) P → IfHint r Q
hint_of_dir T {U} P Q e r is f h = subst (λ x. IfHint x Q) (sym (error_is r is)) (hint_by_dir T U P Q e f h)

-- it is refused only where the name is absent
refused_lookup : (U : Type 0) (P : Refusal → Type 0) (a b : Taped) (e : DirError) → IsCause a b (cause_of other never never e) → (e ≡ NoSuchName → P refusal.NoSuchName) → IfRefused {T = U} (Err (stop_of_dir e)) P
refused_lookup U P a b NoSuchName h f = f refl
refused_lookup U P a b NameTaken h f = absurd h
refused_lookup U P a b (NoSlot largest) h f = absurd h
refused_lookup U P a b (File e) h f = unrefused_file U P a b e h

pub refused_by_lookup : {U : Type 0} (P : Refusal → Type 0) (a b : Taped) (e : DirError) (r : Result U Stop) → IsErrAnd r (λ s. s ≡ stop_of_dir e) → IsCause a b (cause_of other never never e) → (e ≡ NoSuchName → P refusal.NoSuchName) → IfRefused r P
refused_by_lookup {U} P a b e r is h f = subst (λ x. IfRefused x P) (sym (error_is r is)) (refused_lookup U P a b e h f)

-- one that only reads it
unrefused_dir : (U : Type 0) (P : Refusal → Type 0) (a b : Taped) (e : DirError) → IsCause a b (cause_of never never never e) → IfRefused {T = U} (Err (stop_of_dir e)) P
unrefused_dir U P a b NoSuchName h = absurd h
unrefused_dir U P a b NameTaken h = absurd h
unrefused_dir U P a b (NoSlot largest) h = absurd h
unrefused_dir U P a b (File e) h = unrefused_file U P a b e h

pub unrefused_by_dir : {U : Type 0} (P : Refusal → Type 0) (a b : Taped) (e : DirError) (r : Result U Stop) → IsErrAnd r (λ s. s ≡ stop_of_dir e) → IsCause a b (cause_of never never never e) → IfRefused r P
unrefused_by_dir {U} P a b e r is h = subst (λ x. IfRefused x P) (sym (error_is r is)) (unrefused_dir U P a b e h)

-- ---- of a call that stops a line
hint_by_stop : (T U : Type 0) (P Q : Place → ℕ → Page → Option (List ℕ) → Type 0) (s : Stop) → ((place : Place) (at : ℕ) (wanted : Page) (found : Option (List ℕ)) → P place at wanted found → Q place at wanted found) → IfHint {T = T} (Err s) P → IfHint {T = U} (Err s) Q
hint_by_stop T U P Q (stop.Refused r) f h = tt
hint_by_stop T U P Q (stop.Misled place at wanted found) f h = f place at wanted found h
hint_by_stop T U P Q stop.DiskFault f h = tt
hint_by_stop T U P Q stop.Memory f h = tt

pub hint_of_stop : (T : Type 0) {U : Type 0} (P Q : Place → ℕ → Page → Option (List ℕ) → Type 0) (s : Stop) (r : Result U Stop) → IsErrAnd r (λ x. x ≡ s) → ((place : Place) (at : ℕ) (wanted : Page) (found : Option (List ℕ)) → P place at wanted found → Q place at wanted found) → IfHint {T = T} (Err s) P → IfHint r Q
hint_of_stop T {U} P Q s r is f h = subst (λ x. IfHint x Q) (sym (error_is r is)) (hint_by_stop T U P Q s f h)

refused_stop : (T U : Type 0) (P Q : Refusal → Type 0) (s : Stop) → ((r : Refusal) → P r → Q r) → IfRefused {T = T} (Err s) P → IfRefused {T = U} (Err s) Q
refused_stop T U P Q (stop.Refused r) f h = f r h
refused_stop T U P Q (stop.Misled place at wanted found) f h = tt
refused_stop T U P Q stop.DiskFault f h = tt
refused_stop T U P Q stop.Memory f h = tt

pub refused_of_stop : (T : Type 0) {U : Type 0} (P Q : Refusal → Type 0) (s : Stop) (r : Result U Stop) → IsErrAnd r (λ x. x ≡ s) → ((x : Refusal) → P x → Q x) → IfRefused {T = T} (Err s) P → IfRefused r Q
refused_of_stop T {U} P Q s r is f h = subst (λ x. IfRefused x Q) (sym (error_is r is)) (refused_stop T U P Q s f h)

-- ---- no hint misled
pub never_hint : {U : Type 0} (r : Result U Stop) (P : Place → ℕ → Page → Option (List ℕ) → Type 0) → IfHint r (λ place at wanted found. ⊥) → IfHint r P
never_hint (Ok x) P h = tt
never_hint (Err (stop.Refused r)) P h = tt
never_hint (Err (stop.Misled place at wanted found)) P h = absurd h
never_hint (Err stop.DiskFault) P h = tt
never_hint (Err stop.Memory) P h = tt

-- ---- a call that is refused as one tells, whose other clauses speak of no refusal
pub hint_refused : {U : Type 0} (e : Stop) (x : Refusal) (r : Result U Stop) (P : Place → ℕ → Page → Option (List ℕ) → Type 0) → IsErrAnd r (λ y. y ≡ e) → e ≡ stop.Refused x → IfHint r P
hint_refused e x r P is refuses = subst (λ y. IfHint y P) (sym (error_is r is ∙ ap Err refuses)) tt

-- ---- of a sweep
unrefused_look : (U : Type 0) (P : Refusal → Type 0) (e : LookError) → IfRefused {T = U} (Err (stop_of_look e)) P
unrefused_look U P look.DiskFault = tt
unrefused_look U P look.Memory = tt

pub unrefused_by_look : {U : Type 0} (P : Refusal → Type 0) (e : LookError) (r : Result U Stop) → IsErrAnd r (λ s. s ≡ stop_of_look e) → IfRefused r P
unrefused_by_look {U} P e r is = subst (λ x. IfRefused x P) (sym (error_is r is)) (unrefused_look U P e)

hint_look : (U : Type 0) (P : Place → ℕ → Page → Option (List ℕ) → Type 0) (e : LookError) → IfHint {T = U} (Err (stop_of_look e)) P
hint_look U P look.DiskFault = tt
hint_look U P look.Memory = tt

pub hint_by_look : {U : Type 0} (P : Place → ℕ → Page → Option (List ℕ) → Type 0) (e : LookError) (r : Result U Stop) → IsErrAnd r (λ s. s ≡ stop_of_look e) → IfHint r P
hint_by_look {U} P e r is = subst (λ x. IfHint x P) (sym (error_is r is)) (hint_look U P e)
