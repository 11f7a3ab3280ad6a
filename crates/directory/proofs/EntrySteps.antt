-- The record writes of an entering, one after another, and how they are counted.
use Rattle.std.proofs.Common.{◌≡◌, ℕ, suc, ◌+◌, ◌<◌, ◌≤◌, ◌^◌, Bool, true, false, cond, nat_lt, not, List, [], ◌∷◌, ◌++◌, length, take, Result, Ok, Err, OnOk, refl, sym, ◌∙◌, ap, subst, arith, append_assoc}
use Rattle.std.proofs.lemmas.Bool.{cond-false}
use Rattle.std.proofs.lemmas.Bool.Decides.{nat_tests}
use Rattle.std.proofs.lemmas.List.{length-append}
use Rattle.disk_records.proofs.FirstOnes.{first_front, first_then}
use Rattle.disk_records.proofs.Growing.{added-twice}
use Rattle.disk_records.specs.Commands.{value_writes}
use Rattle.disk_records.specs.Events.{IsFirstOf, writes_in}
use Rattle.disk_records.specs.Tapes.{DiskAlone, Taped, added, capped}
use Rattle.disk_records.specs.declared.records.Event.{Event}
use Rattle.disk_records.specs.declared.records.Tally.{Tally}
use Rattle.file_pages.specs.Values.{WroteValue}
use Rattle.laws_call.proofs.counts.Laws.{count_of_a_call}
use Rattle.laws_call.specs.Acting.{around}
use Rattle.file_pages.specs.pack_laws.proofs.tallies.Laws.{one_commit_is_counted, quiet_moves_are_not_counted, tallies_join, tally_by_the_count}
use Rattle.file_pages.specs.pack_laws.specs.TallyLaws.{operations_in}
use Rattle.pack_model.specs.operations.Operations.{enter_moves, one_move, quiet_moves}
use Rattle.pack_model.specs.operations.Step.{Operation}
use Rattle.pack_model.specs.sessions.Tallies.{counted, took_effect}
use Rattle.page_seeking.specs.declared.refs.FileError.TheVariants as fault
use Rattle.page_seeking.specs.declared.refs.FileError.{FileError}
use Rattle.directory.specs.declared.errors.DirError.{DirError}
use Rattle.directory.specs.Answers.{in_directory}
use Rattle.directory.specs.Entering.{WroteEntry}
use Rattle.directory.specs.Leaving.{Wrote}
use Rattle.directory.proofs.Answering.{error_in, error_out, ok_in}

-- ---- quiet moves
quiet_length : (events : List Event) → length (quiet_moves events) ≡ length events
quiet_length [] = refl
quiet_length (e ∷ events) = ap suc (quiet_length events)

quiet_none : (events : List Event) → operations_in (quiet_moves events) ≡ 0
quiet_none [] = refl
quiet_none (e ∷ events) = quiet_none events

-- some of the record writes before the last count nothing
pub none_counted : (first : List Event) (o : Operation) (w k : ℕ) (t : Tally) → k ≤ length first → t ≡ counted w (take k (enter_moves first o)) t
none_counted first o w k t few =
    let long = quiet_length first in
    let off : nat_lt (length (quiet_moves first)) k ≡ false = not_below (length (quiet_moves first)) k (omega (arith, long, few)) in
    sym (one_commit_is_counted w k (quiet_moves first) [] o t (quiet_none first) refl ∙ cond-false _ (took_effect (w + suc (length (quiet_moves first))) t) t off)
  where
    not_below : (m k : ℕ) → k ≤ m → nat_lt m k ≡ false
    not_below m k l = grind (arith, nat_tests)

first_length : (ws events : List Event) → IsFirstOf ws events → length events ≤ length ws
first_length ws [] h = omega arith
first_length [] (x ∷ events) h = absurd h
first_length (w ∷ ws) (x ∷ events) h = let less = first_length ws events h.1 in omega (arith, less)

-- ---- a value that commits nothing, if it is wanted
pub value_first : {a b : Taped} (at : ℕ) (value : List ℕ) (wanted : Bool) (o : Operation) (bits : List Bool) (t u : Tally) (r : Result (Unit {0}) FileError) (s : Result (Unit {0}) DirError) → s ≡ in_directory r → wanted ≡ true → WroteValue at value o (around a bits t) (around b bits u) r
    → Wrote (cond wanted (value_writes at value) []) a b s
value_first {a} {b} at value wanted o bits t u r s is asked wrote =
    subst (λ w. Wrote (cond w (value_writes at value) []) a b s) (sym asked) (rw is (record {
      some = wrote.some;
      all = ok_in _ r wrote.all;
      out_of_memory = λ memory. wrote.out_of_memory (error_out r fault.Memory memory);
    }))

-- the value that makes the free slots one is wanted where they are several
pub joins_are : (wanted t : Bool) (at : ℕ) (before freed value : List ℕ) → wanted ≡ not t → value ≡ cond t before freed → cond wanted (value_writes at value) [] ≡ cond t [] (value_writes at freed)
joins_are wanted true at before freed value is same = ap (λ w. cond w (value_writes at value) []) is
joins_are wanted false at before freed value is same = ap (λ w. cond w (value_writes at value) []) is ∙ ap (value_writes at) same

-- the one of the page after is wanted where words come to lie there
pub next_are : (wanted u : Bool) (at : ℕ) (value put : List ℕ) → wanted ≡ u → value ≡ put → cond wanted (value_writes at value) [] ≡ cond u (value_writes at put) []
next_are wanted u at value put is same = λ i. cond (is i) (value_writes at (same i)) []

-- each of both is a record write
pub only_writes : (t u : Bool) (at next_at : ℕ) (v w : List ℕ) → writes_in (cond t [] (value_writes at v) ++ cond u (value_writes next_at w) []) ≡ length (cond t [] (value_writes at v) ++ cond u (value_writes next_at w) [])
only_writes true true at next_at v w = refl
only_writes true false at next_at v w = refl
only_writes false true at next_at v w = refl
only_writes false false at next_at v w = refl

pub both_done : {a b c : Taped} (part later : List Event) → DiskAlone a b → DiskAlone b c → added a b ≡ part → added b c ≡ later → added a c ≡ part ++ later
both_done part later one two first next = added-twice one.grown two.grown ∙ (λ i. first i ++ next i)

-- ---- a record write that fails
-- the prefix failed
pub first_failed : {a b : Taped} {U : Type 0} (part later last : List Event) (o : Operation) (bits : List Bool) (t : Tally) (e : DirError) → Wrote {T = U} part a b (Err e) → WroteEntry {T = U} (part ++ later) last o (around a bits t) (around b bits t) (Err e)
first_failed {a} {b} part later last o bits t e wrote =
    let few = first_length part (added a b) wrote.some in
    let sum = length-append part later in
    let total = length-append (part ++ later) last in
    record {
      some = subst (λ l. IsFirstOf l (added a b)) (sym (append_assoc part later last)) (first_front part (later ++ last) (added a b) wrote.some);
      all = tt;
      table = refl;
      counts = λ tells. none_counted (part ++ later) o a.writes (length (added a b)) t (omega (arith, few, sum));
      out_of_memory = λ memory. let less = wrote.out_of_memory memory in omega (arith, less, sum, total);
    }

-- the second one did, once the first was done
pub second_failed : {a b c : Taped} {U : Type 0} (part later last : List Event) (o : Operation) (bits : List Bool) (t : Tally) (e : DirError) → DiskAlone a b → DiskAlone b c → added a b ≡ part → Wrote {T = U} later b c (Err e)
    → WroteEntry {T = U} (part ++ later) last o (around a bits t) (around c bits t) (Err e)
second_failed {a} {b} {c} part later last o bits t e one two done wrote =
    let both = added-twice one.grown two.grown in
    let some = first_then part later (added a b) (added b c) done wrote.some in
    let few = first_length (part ++ later) (added a b ++ added b c) some in
    let long = ap length both in
    let sum = length-append part later in
    let total = length-append (part ++ later) last in
    let first = ap length done in
    let spare = one.grown.spare in
    record {
      some = subst (IsFirstOf ((part ++ later) ++ last)) (sym both) (first_front (part ++ later) last (added a b ++ added b c) some);
      all = tt;
      table = refl;
      counts = λ tells. none_counted (part ++ later) o a.writes (length (added a c)) t (omega (arith, few, long));
      out_of_memory = λ memory. let less = wrote.out_of_memory memory in omega (arith, less, spare, first, sum, total);
    }

-- ---- the last one
-- after record writes that were all done the value that commits was to be written, and counted
module _ (a c d : Taped) (first : List Event) (at : ℕ) (value : List ℕ) (o : Operation) (t u : Tally) (one : DiskAlone a c) (two : DiskAlone c d) (done : added a c ≡ first) (only : writes_in first ≡ length first) (limit : t.limit < 2 ^ 64)
    (count : a.writes ≡ capped (writes_in a.events)) (mid : c.writes ≡ capped (writes_in c.events)) where
  both : added a d ≡ first ++ added c d
  both = added-twice one.grown two.grown ∙ ap (λ l. l ++ added c d) done

  many : length (added a d) ≡ length (quiet_moves first) + length (added c d)
  many = let long = ap length both in let sum = length-append first (added c d) in let same = quiet_length first in omega (arith, long, sum, same)

  -- the count of the machine before it
  count_is : c.writes ≡ capped (a.writes + length (quiet_moves first))
  count_is = count_of_a_call a c one.grown count mid ∙ ap (λ n. capped (a.writes + n)) (ap writes_in done ∙ only ∙ sym (quiet_length first))

  counts_alike : counted c.writes (take (length (added c d)) (one_move o)) t ≡ counted a.writes (take (length (added a d)) (enter_moves first o)) t
  counts_alike =
      let k : ℕ = length (added c d) in
      let moves = take k (one_move o) in
      ap (λ n. counted n moves t) count_is ∙ tally_by_the_count (a.writes + length (quiet_moves first)) moves t limit
      ∙ ap (λ s. counted (a.writes + length (quiet_moves first)) moves s) (sym (quiet_moves_are_not_counted a.writes (quiet_moves first) t (quiet_none first)))
      ∙ sym ((tallies_join a.writes (quiet_moves first) (one_move o) t).broken k)
      ∙ ap (λ n. counted a.writes (take n (enter_moves first o)) t) (sym many)

  pub last_written : (bits : List Bool) (r : Result (Unit {0}) FileError) (s : Result (Unit {0}) DirError) → s ≡ in_directory r → WroteValue at value o (around c bits t) (around d bits u) r
      → WroteEntry first (value_writes at value) o (around a bits t) (around d bits u) s
  last_written bits r s is wrote =
      let sum = length-append first (value_writes at value) in
      let before = ap length done in
      let spare = one.grown.spare in
      rw is (record {
        some = subst (IsFirstOf (first ++ value_writes at value)) (sym both) (first_then first (value_writes at value) first (added c d) refl wrote.some);
        all = ok_in _ r (ok_map r (λ w. both ∙ ap (λ l. first ++ l) w) wrote.all);
        table = wrote.table;
        counts = λ tells. wrote.counts (λ failed. tells (error_in r fault.DiskFault failed)) ∙ counts_alike;
        out_of_memory = λ memory. let less = wrote.out_of_memory (error_out r fault.Memory memory) in omega (arith, less, spare, before, sum);
      })
    where
      ok_map : {P Q : Type 0} (r : Result (Unit {0}) FileError) → (P → Q) → OnOk r P → OnOk r Q
      ok_map (Ok x) f p = f p
      ok_map (Err e) f p = tt
