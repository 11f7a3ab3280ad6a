-- A value write, by its guarded command.
use Rattle.std.proofs.Common.{Bool, Err, IsErrOf, List, Ok, ap, arith, length, refl, suc, sym, take, [], ℕ, ◌+◌, ◌-◌, ◌<◌, ◌^◌, ◌∙◌, ◌∷◌, ◌≡◌, nat_le, cond}
use Rattle.disk_records.specs.Commands.{value_writes}
use Rattle.disk_records.specs.Events.{IsFirstOf, writes_in}
use Rattle.disk_records.specs.Tapes.{DiskAlone, Taped, added, capped}
use Rattle.disk_records.specs.declared.records.Event.{Event}
use Rattle.disk_records.specs.declared.records.Page.{Page}
use Rattle.disk_records.specs.declared.records.Place.{Place}
use Rattle.disk_records.specs.declared.records.Tally.{Tally}
use Rattle.label_check.specs.Guarded.{Carries, Guarded}
use Rattle.label_check.specs.declared.errors.GuardError.TheVariants as guard
use Rattle.label_check.specs.declared.errors.GuardError.{GuardError}
use Rattle.laws_call.specs.pack_laws.proofs.tallies.Laws.{count_tells_what_was_written}
use Rattle.pack_model.specs.operations.Operations.{one_move}
use Rattle.pack_model.specs.operations.Step.{Operation}
use Rattle.pack_model.specs.sessions.Tallies.{counted, is_among, took_effect}
use Rattle.page_seeking.specs.declared.refs.FileError.TheVariants as file
use Rattle.page_seeking.specs.declared.refs.FileError.{FileError}
use Rattle.file_pages.proofs.Erring.{fault_of, memory_of}
use Rattle.laws_call.specs.Acting.{around}
use Rattle.file_pages.specs.Counting.{counted_after}
use Rattle.file_pages.specs.Inside.{error_at}
use Rattle.file_pages.specs.Values.{WroteValue}

module _ (a b : Taped) (at : ℕ) (page : Page) (value : List ℕ) (o : Operation) (t : Tally) (alone : DiskAlone a b) (first : a.writes ≡ capped (writes_in a.events)) (last : b.writes ≡ capped (writes_in b.events)) where
  -- after a fault the record write is known by the count
  fault_counts : (events : List Event) → IsFirstOf (value_writes at value) events → is_among a.writes 1 b.writes ≡ nat_le 1 (writes_in events) → cond (is_among a.writes 1 b.writes) (took_effect (a.writes + 1) t) t ≡ counted a.writes (take (length events) (one_move o)) t
  fault_counts [] h is = ap (λ k. cond k (took_effect (a.writes + 1) t) t) is
  fault_counts (x ∷ []) h is =
      let one : nat_le 1 (writes_in (x ∷ [])) ≡ nat_le 1 1 = ap (λ (e : Event). nat_le 1 (writes_in (e ∷ []))) h.0 in
      let next : a.writes + 1 ≡ suc a.writes = omega arith in
      ap (λ k. cond k (took_effect (a.writes + 1) t) t) (is ∙ one) ∙ ap (λ n. took_effect n t) next
  fault_counts (x ∷ y ∷ events) h is = absurd h.1

  -- the tally after a value write that failed
  failed_counts : (error : GuardError) (place : Place) (held : ℕ) (wanted : Page) (e : FileError) → e ≡ error_at place held wanted error
      → Guarded {T = Unit {0}} (Carries at page) at [] (value_writes at value) 2 a b (Err error)
      → (IsErrOf {T = Unit {0}} (Err e) file.DiskFault → b.writes < 2 ^ 64 - 1)
      → counted_after a.writes 1 b.writes (Err error) t ≡ counted a.writes (take (length (added a b)) (one_move o)) t
  failed_counts (guard.Wrong found) place held wanted e same guarded tells = sym (ap (λ (l : List Event). counted a.writes (take (length l) (one_move o)) t) guarded.wrong.silent)
  failed_counts guard.DiskFault place held wanted e same guarded tells =
      fault_counts (added a b) guarded.some (count_tells_what_was_written a b 1 alone.grown first last (tells (fault_of e same)))
  failed_counts guard.Memory place held wanted e same guarded tells = none (added a b) (guarded.want refl).unwritten
    where
      none : (events : List Event) → IsFirstOf [] events → t ≡ counted a.writes (take (length events) (one_move o)) t
      none [] h = refl
      none (x ∷ events) h = absurd h

  -- what failed for another cause than a fault wrote nothing
  failed_unwritten : (error : GuardError) (place : Place) (held : ℕ) (wanted : Page) (e : FileError) → e ≡ error_at place held wanted error
      → Guarded {T = Unit {0}} (Carries at page) at [] (value_writes at value) 2 a b (Err error)
      → (IsErrOf {T = Unit {0}} (Err e) file.DiskFault → ⊥) → added a b ≡ []
  failed_unwritten (guard.Wrong found) place held wanted e same guarded unless = guarded.wrong.silent
  failed_unwritten guard.DiskFault place held wanted e same guarded unless = absurd (unless (ap (λ (x : FileError). Err x) same))
  failed_unwritten guard.Memory place held wanted e same guarded unless = none (added a b) (guarded.want refl).unwritten
    where
      none : (events : List Event) → IsFirstOf [] events → events ≡ []
      none [] h = refl
      none (x ∷ events) h = absurd h

  -- the value write failed
  pub value_failed : {u : Tally} (bits : List Bool) (error : GuardError) (place : Place) (held : ℕ) (wanted : Page) (e : FileError) → e ≡ error_at place held wanted error
      → Guarded {T = Unit {0}} (Carries at page) at [] (value_writes at value) 2 a b (Err error) → u ≡ counted_after a.writes 1 b.writes (Err error) t
      → WroteValue {T = Unit {0}} at value o (around a bits t) (around b bits u) (Err e)
  value_failed bits error place held wanted e same guarded counts = record {
    some = guarded.some;
    all = tt;
    table = refl;
    counts = λ tells. counts ∙ failed_counts error place held wanted e same guarded tells;
    out_of_memory = λ memory. (guarded.want (memory_of error place held wanted e same memory)).less;
    unwritten = λ unless. failed_unwritten error place held wanted e same guarded unless;
  }

  -- it was done
  pub value_done : {u : Tally} (bits : List Bool) → Guarded {T = Unit {0}} (Carries at page) at [] (value_writes at value) 2 a b (Ok tt) → u ≡ counted_after a.writes 1 b.writes (Ok tt) t
      → WroteValue {T = Unit {0}} at value o (around a bits t) (around b bits u) (Ok tt)
  value_done bits guarded counts =
      let next : a.writes + 1 ≡ suc a.writes = omega arith in
      record {
        some = guarded.some;
        all = guarded.ok.wrote;
        table = refl;
        counts = λ tells. counts ∙ ap (λ n. took_effect n t) next ∙ ap (λ l. counted a.writes (take (length l) (one_move o)) t) (sym guarded.ok.wrote);
        out_of_memory = λ memory. cc;
        unwritten = λ unless. tt;
      }
