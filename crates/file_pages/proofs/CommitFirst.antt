-- A guarded command whose first of two record writes commits an operation, and the releases after it.
use Rattle.std.proofs.Common.{Bool, Err, IsErrOf, List, Ok, OnOk, Result, ap, arith, cond, length, nat_le, refl, subst, suc, sym, take, zero, [], ℕ, ◌++◌, ◌+◌, ◌-◌, ◌<◌, ◌^◌, ◌∙◌, ◌∷◌, ◌≡◌}
use Rattle.std.proofs.lemmas.List.{append-nil, length-append}
use Rattle.disk_records.proofs.FirstOnes.{first_front, first_then}
use Rattle.disk_records.proofs.Growing.{added-twice}
use Rattle.disk_records.specs.Commands.{relabel_writes}
use Rattle.disk_records.specs.Events.{IsFirstOf, writes_in}
use Rattle.disk_records.specs.Packs.{Pack}
use Rattle.disk_records.specs.Tapes.{DiskAlone, Grown, Taped, added, capped}
use Rattle.disk_records.specs.declared.records.Event.{Event}
use Rattle.disk_records.specs.declared.records.Page.{Page}
use Rattle.disk_records.specs.declared.records.Place.{Place}
use Rattle.disk_records.specs.declared.records.Tally.{Tally}
use Rattle.label_check.specs.Guarded.{Guarded}
use Rattle.label_check.specs.declared.errors.GuardError.TheVariants as guard
use Rattle.label_check.specs.declared.errors.GuardError.{GuardError}
use Rattle.laws_call.specs.pack_laws.proofs.tallies.Laws.{count_tells_what_was_written}
use Rattle.pack_model.specs.operations.Commands.{releases_writes}
use Rattle.pack_model.specs.operations.Committing.{units}
use Rattle.pack_model.specs.operations.Operations.Move.{commits, quiet}
use Rattle.pack_model.specs.operations.Operations.{Move, releases_moves}
use Rattle.pack_model.specs.operations.Step.{Operation}
use Rattle.pack_model.specs.sessions.Tallies.{counted, is_among, took_effect}
use Rattle.page_seeking.specs.declared.refs.FileError.TheVariants as file
use Rattle.page_seeking.specs.declared.refs.FileError.{FileError}
use Rattle.file_pages.proofs.Erring.{fault_of, memory_of}
use Rattle.file_pages.specs.Counting.{counted_after}
use Rattle.file_pages.specs.Inside.{error_at}
use Rattle.file_pages.specs.Releasing.{CommitsAndReleases, CommitsFirst, ReleasesAll}

-- the moves of a cut and of a drop's releases
abbrev pub commit_moves : Operation → ℕ → List Move
commit_moves o n = commits o ∷ quiet ∷ releases_moves (units n)

-- ---- counting
quiet_rest : (w k n : ℕ) (t : Tally) → counted w (take k (releases_moves (units n))) t ≡ t
quiet_rest w zero n t = refl
quiet_rest w (suc k) zero t = refl
quiet_rest w (suc zero) (suc n) t = refl
quiet_rest w (suc (suc k)) (suc n) t = quiet_rest (suc (suc w)) k n t

-- once the first record write was made the operation is counted
pub commit_counts : (w k n : ℕ) (o : Operation) (t : Tally) → counted w (take (suc k) (commit_moves o n)) t ≡ took_effect (suc w) t
commit_counts w zero n o t = refl
commit_counts w (suc k) n o t = quiet_rest (suc (suc w)) k n (took_effect (suc w) t)

-- ---- the command that commits
module _ (a b : Taped) (holds : Pack → Type 0) (at : ℕ) (label value : List ℕ) (t : Tally) (alone : DiskAlone a b) (first : a.writes ≡ capped (writes_in a.events)) (last : b.writes ≡ capped (writes_in b.events)) where
  next : a.writes + 1 ≡ suc a.writes
  next = omega arith

  -- after a fault the record write is known by the count
  fault_counts : (o : Operation) (n : ℕ) (events : List Event) → IsFirstOf (relabel_writes at label value) events → is_among a.writes 1 b.writes ≡ nat_le 1 (writes_in events)
      → cond (is_among a.writes 1 b.writes) (took_effect (a.writes + 1) t) t ≡ counted a.writes (take (length events) (commit_moves o n)) t
  fault_counts o n [] h is = ap (λ k. cond k (took_effect (a.writes + 1) t) t) is
  fault_counts o n (x ∷ []) h is =
      let one : nat_le 1 (writes_in (x ∷ [])) ≡ nat_le 1 1 = ap (λ (e : Event). nat_le 1 (writes_in (e ∷ []))) h.0 in
      ap (λ k. cond k (took_effect (a.writes + 1) t) t) (is ∙ one) ∙ ap (λ n. took_effect n t) next
  fault_counts o n (x ∷ y ∷ []) h is =
      let two : nat_le 1 (writes_in (x ∷ y ∷ [])) ≡ nat_le 1 2 = rw (h.0, h.1.0) refl in
      ap (λ k. cond k (took_effect (a.writes + 1) t) t) (is ∙ two) ∙ ap (λ n. took_effect n t) next
  fault_counts o n (x ∷ y ∷ z ∷ events) h is = absurd h.1.1

  failed_counts : (o : Operation) (n : ℕ) (error : GuardError) (place : Place) (held : ℕ) (wanted : Page) (e : FileError) → e ≡ error_at place held wanted error
      → Guarded {T = Unit {0}} holds at [] (relabel_writes at label value) 2 a b (Err error)
      → (IsErrOf {T = Unit {0}} (Err e) file.DiskFault → b.writes < 2 ^ 64 - 1)
      → counted_after a.writes 1 b.writes (Err error) t ≡ counted a.writes (take (length (added a b)) (commit_moves o n)) t
  failed_counts o n (guard.Wrong found) place held wanted e same guarded tells = sym (ap (λ (l : List Event). counted a.writes (take (length l) (commit_moves o n)) t) guarded.wrong.silent)
  failed_counts o n guard.DiskFault place held wanted e same guarded tells =
      fault_counts o n (added a b) guarded.some (count_tells_what_was_written a b 1 alone.grown first last (tells (fault_of e same)))
  failed_counts o n guard.Memory place held wanted e same guarded tells = none (added a b) (guarded.want refl).unwritten
    where
      none : (events : List Event) → IsFirstOf [] events → t ≡ counted a.writes (take (length events) (commit_moves o n)) t
      none [] h = refl
      none (x ∷ events) h = absurd h

  pub commits_failed : {u : Tally} (error : GuardError) (place : Place) (held : ℕ) (wanted : Page) (e : FileError) → e ≡ error_at place held wanted error
      → Guarded {T = Unit {0}} holds at [] (relabel_writes at label value) 2 a b (Err error) → u ≡ counted_after a.writes 1 b.writes (Err error) t
      → CommitsFirst (relabel_writes at label value) a b t u (Err e)
  commits_failed error place held wanted e same guarded counts = record {
    some = guarded.some;
    all = tt;
    counts = λ o n tells. counts ∙ failed_counts o n error place held wanted e same guarded tells;
    done = tt;
    less = λ memory. (guarded.want (memory_of error place held wanted e same memory)).less;
  }

  pub commits_done : {u : Tally} → Guarded {T = Unit {0}} holds at [] (relabel_writes at label value) 2 a b (Ok tt) → u ≡ counted_after a.writes 1 b.writes (Ok tt) t
      → CommitsFirst (relabel_writes at label value) a b t u (Ok tt)
  commits_done guarded counts =
      let effect = counts ∙ ap (λ n. took_effect n t) next in
      record {
        some = guarded.some;
        all = guarded.ok.wrote;
        counts = λ o n tells. effect ∙ sym (commit_counts a.writes 1 n o t) ∙ ap (λ l. counted a.writes (take (length l) (commit_moves o n)) t) (sym guarded.ok.wrote);
        done = effect;
        less = λ memory. cc;
      }

-- ---- and then
-- it failed
pub commit_broke : {part : List Event} {a b : Taped} {t u : Tally} (pages : List ℕ) (e : FileError) → CommitsFirst part a b t u (Err e) → length part ≡ 2 → CommitsAndReleases part pages a b t u (Err e)
commit_broke {part} {a} {b} pages e x two = record {
  some = first_front part (releases_writes pages) (added a b) x.some;
  all = tt;
  counts = x.counts;
  less = λ memory. let less = x.less memory in let sum : length (part ++ releases_writes pages) ≡ length part + length (releases_writes pages) = length-append part (releases_writes pages) in omega (arith, less, sum, two);
}

-- it was done, and the releases were begun
pub releases_after : {part : List Event} {a b c : Taped} {t u : Tally} {pages : List ℕ} {bits now : List Bool} (result : Result (Unit {0}) FileError) → Grown a b → Grown b c → CommitsFirst part a b t u (Ok tt) → length part ≡ 2 → ReleasesAll pages b c bits now result
    → CommitsAndReleases part pages a c t u result
releases_after {part} {a} {b} {c} {t} {u} {pages} result one two x long y = record {
  some = subst (IsFirstOf (part ++ releases_writes pages)) (sym both) (first_then part (releases_writes pages) (added a b) (added b c) x.all y.some);
  all = by result y.all;
  counts = λ o n tells. x.done ∙ sym (commit_counts a.writes (suc (length (added b c))) n o t) ∙ ap (λ k. counted a.writes (take k (commit_moves o n)) t) (sym many);
  less = λ memory.
      let less = y.less memory in
      let kept = one.spare in
      let wrote : length (added a b) ≡ length part = ap length x.all in
      let sum : length (part ++ releases_writes pages) ≡ length part + length (releases_writes pages) = length-append part (releases_writes pages) in
      omega (arith, less, kept, wrote, sum);
}
  where
    both : added a c ≡ added a b ++ added b c
    both = added-twice one two

    many : length (added a c) ≡ suc (suc (length (added b c)))
    many = let sum : length (added a b ++ added b c) ≡ length (added a b) + length (added b c) = length-append (added a b) (added b c) in let wrote : length (added a b) ≡ length part = ap length x.all in let size = ap length both in omega (arith, sum, wrote, size, long)

    by : (result : Result (Unit {0}) FileError) → OnOk result (added b c ≡ releases_writes pages) → OnOk result (added a c ≡ part ++ releases_writes pages)
    by (Ok y) wrote = both ∙ ap (λ l. l ++ added b c) x.all ∙ ap (λ l. part ++ l) wrote
    by (Err e) wrote = tt

-- ---- after a look
pub look_before : {part : List Event} {a b c : Taped} {t u : Tally} {pages : List ℕ} {result : Result (Unit {0}) FileError} → Grown a b → Grown b c → added a b ≡ [] → a.writes ≡ capped (writes_in a.events) → b.writes ≡ capped (writes_in b.events)
    → CommitsAndReleases part pages b c t u result → CommitsAndReleases part pages a c t u result
look_before {part} {a} {b} {c} {t} {u} {pages} {result} one two silent first mid x = record {
  some = subst (IsFirstOf (part ++ releases_writes pages)) (sym same) x.some;
  all = subst (λ l. OnOk result (l ≡ part ++ releases_writes pages)) (sym same) x.all;
  counts = λ o n tells. x.counts o n tells ∙ ap (λ w. counted w (take (length (added b c)) (commit_moves o n)) t) stay ∙ ap (λ l. counted a.writes (take (length l) (commit_moves o n)) t) (sym same);
  less = λ memory. let less = x.less memory in let spare = one.spare in let none : length (added a b) ≡ 0 = ap length silent in omega (arith, less, spare, none);
}
  where
    same : added a c ≡ added b c
    same = added-twice one two ∙ ap (λ l. l ++ added b c) silent

    stay : b.writes ≡ a.writes
    stay = mid ∙ ap (λ (l : List Event). capped (writes_in l)) (one.events ∙ ap (λ l. a.events ++ l) silent ∙ append-nil a.events) ∙ sym first
