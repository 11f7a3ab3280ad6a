-- Tallies one after another, and the machine's count of record writes.
use Rattle.std.proofs.Common.{Bool, List, [], ap, arith, cond, false, length, min, nat_le, nat_lt, refl, suc, sym, take, true, zero, ℕ, ◌++◌, ◌+◌, ◌-◌, ◌<◌, ◌^◌, ◌∙◌, ◌∷◌, ◌≡◌}
use Rattle.std.proofs.lemmas.Bool.Decides.{nat_tests}
use Rattle.std.proofs.lemmas.List.Sums.{sum_by-append}
use Rattle.std.proofs.lemmas.List.{take_min}
use Rattle.std.proofs.Math.Seq.{take-append-add}
use Rattle.pack_model.specs.disk_records.proofs.Growing.{writes-append}
use Rattle.pack_model.specs.disk_records.specs.Events.{place_of_write, writes_in}
use Rattle.pack_model.specs.disk_records.specs.Tapes.{added, capped}
use Rattle.pack_model.specs.disk_records.specs.declared.records.Event.{Event}
use Rattle.pack_model.specs.disk_records.specs.declared.records.Event.TheVariants.{Shown, Wrote}
use Rattle.pack_model.specs.disk_records.specs.declared.records.Tally.{Tally}
use Rattle.pack_model.specs.operations.Operations.Move.{commits, mends, quiet}
use Rattle.pack_model.specs.operations.Operations.{Move, weight_of}
use Rattle.pack_model.specs.operations.Step.{Operation}
use Rattle.pack_model.specs.reading.Model.{Model}
use Rattle.pack_model.specs.sessions.Moves.{Meaning}
use Rattle.pack_model.specs.sessions.Tallies.{counted, is_among, no_tally, took_effect}
use Rattle.pack_model.specs.sessions.Turns.{ops_of}
use Rattle.pack_laws.proofs.Talking.{talks_writes}
use Rattle.pack_laws.proofs.inside.Acknowledging.{ops-append}
use Rattle.pack_laws.specs.TallyLaws.{CountTellsWhatWasWritten, OneCommitIsCounted, QuietMovesAreNotCounted, TalliesJoin, TalliesOfTurnsJoin, TallyByTheCount, TallyInNumbers, TallyIsTheRuler, operations_in}

-- ---- one after another
joined : (w : ℕ) (a b : List Move) (t : Tally) → counted w (a ++ b) t ≡ counted (w + length a) b (counted w a t)
joined w [] b t = let z : w ≡ w + 0 = omega arith in ap (λ n. counted n b t) z
joined w (quiet ∷ a) b t = let z : suc w + length a ≡ w + suc (length a) = omega arith in joined (suc w) a b t ∙ ap (λ n. counted n b (counted (suc w) a t)) z
joined w (commits o ∷ a) b t =
    let z : suc w + length a ≡ w + suc (length a) = omega arith in
    joined (suc w) a b (took_effect (suc w) t) ∙ ap (λ n. counted n b (counted (suc w) a (took_effect (suc w) t))) z
joined w (mends m ∷ a) b t = let z : suc w + length a ≡ w + suc (length a) = omega arith in joined (suc w) a b t ∙ ap (λ n. counted n b (counted (suc w) a t)) z

pub tallies_join : TalliesJoin
tallies_join w a b t = record {
  whole = joined w a b t;
  broken = λ k. ap (λ l. counted w l t) (take-append-add a b k) ∙ joined w a (take k b) t;
}

pub tallies_of_turns_join : TalliesOfTurnsJoin
tallies_of_turns_join w turns more t = ap (λ l. counted w l t) (ops-append turns more) ∙ joined w (ops_of turns) (ops_of more) t

-- ---- what counts
-- the first move and the others
sum_first : (m : Move) (moves : List Move) → operations_in (m ∷ moves) ≡ weight_of m + operations_in moves
sum_first m moves = sum_by-append weight_of (m ∷ []) moves ∙ (let z : 0 + weight_of m ≡ weight_of m = omega arith in ap (λ n. n + operations_in moves) z)

-- without operations there is none after the first
none_later : (m : Move) (moves : List Move) → operations_in (m ∷ moves) ≡ 0 → operations_in moves ≡ 0
none_later m moves none = let h = sum_first m moves in omega (arith, h, none)

one_more : (o : Operation) (moves : List Move) → operations_in (commits o ∷ moves) ≡ 1 + operations_in moves
one_more o moves = sum_first (commits o) moves

pub quiet_moves_are_not_counted : QuietMovesAreNotCounted
quiet_moves_are_not_counted w [] t none = refl
quiet_moves_are_not_counted w (quiet ∷ moves) t none = quiet_moves_are_not_counted (suc w) moves t (none_later quiet moves none)
quiet_moves_are_not_counted w (commits o ∷ moves) t none = let h = one_more o moves in absurd (omega (arith, none, h))
quiet_moves_are_not_counted w (mends m ∷ moves) t none = quiet_moves_are_not_counted (suc w) moves t (none_later (mends m) moves none)

-- first ones of them neither
none_taken : (k : ℕ) (moves : List Move) → operations_in moves ≡ 0 → operations_in (take k moves) ≡ 0
none_taken zero moves none = refl
none_taken (suc k) [] none = refl
none_taken (suc k) (m ∷ moves) none =
    let h = sum_first m moves in
    let later = none_taken k moves (none_later m moves none) in
    let z = sum_first m (take k moves) in
    omega (arith, none, h, later, z)

next_commit : (o : Operation) (t x : Tally) (k n w : ℕ) → x ≡ cond (nat_lt n k) (took_effect (suc w + suc n) t) t → x ≡ cond (nat_lt (suc n) (suc k)) (took_effect (w + suc (suc n)) t) t
next_commit o t x k n w e =
    let z : suc w + suc n ≡ w + suc (suc n) = omega arith in
    let same : nat_lt n k ≡ nat_lt (suc n) (suc k) = grind (arith, nat_tests) in
    e ∙ ap (λ i. cond (nat_lt n k) (took_effect i t) t) z ∙ ap (λ b. cond b (took_effect (w + suc (suc n)) t) t) same

pub one_commit_is_counted : OneCommitIsCounted
one_commit_is_counted w k before later o t none light = by before k w none
  where
    by : (moves : List Move) (k w : ℕ) → operations_in moves ≡ 0 → counted w (take k (moves ++ commits o ∷ later)) t ≡ cond (nat_lt (length moves) k) (took_effect (w + suc (length moves)) t) t
    by moves zero w none = let no : nat_lt (length moves) 0 ≡ false = grind (arith, nat_tests) in sym (ap (λ b. cond b (took_effect (w + suc (length moves)) t) t) no)
    by [] (suc k) w none =
        let yes : nat_lt 0 (suc k) ≡ true = grind (arith, nat_tests) in
        let z : suc w ≡ w + 1 = omega arith in
        quiet_moves_are_not_counted (suc w) (take k later) (took_effect (suc w) t) (none_taken k later light) ∙ ap (λ n. took_effect n t) z ∙ sym (ap (λ b. cond b (took_effect (w + 1) t) t) yes)
    by (quiet ∷ moves) (suc k) w none = next_commit o t _ k (length moves) w (by moves k (suc w) (none_later quiet moves none))
    by (commits u ∷ moves) (suc k) w none = let h = one_more u moves in absurd (omega (arith, none, h))
    by (mends m ∷ moves) (suc k) w none = next_commit o t _ k (length moves) w (by moves k (suc w) (none_later (mends m) moves none))

-- ---- in numbers
capped_here : (n : ℕ) → n < 2 ^ 64 → n ≡ capped (n + 0)
capped_here n low = omega arith

capped_twice : (n k : ℕ) → capped (capped (n + 1) + k) ≡ capped (n + (1 + k))
capped_twice n k = omega arith

capped_low : (n : ℕ) → capped n < 2 ^ 64
capped_low n = omega arith

-- the first move is among the first ones where the limit is further on
first_of : (limit w : ℕ) (m : Move) (moves : List Move) → operations_in (take (limit - w) (m ∷ moves)) ≡ cond (nat_le (suc w) limit) (weight_of m) 0 + operations_in (take (limit - suc w) moves)
first_of limit w m moves = by (limit - w) refl
  where
    by : (k : ℕ) → limit - w ≡ k → operations_in (take k (m ∷ moves)) ≡ cond (nat_le (suc w) limit) (weight_of m) 0 + operations_in (take (limit - suc w) moves)
    by zero e =
        let no : nat_le (suc w) limit ≡ false = grind (arith, nat_tests) in
        let z : limit - suc w ≡ 0 = omega arith in
        rw (no, z) refl
    by (suc j) e =
        let yes : nat_le (suc w) limit ≡ true = grind (arith, nat_tests) in
        let z : limit - suc w ≡ j = omega arith in
        let h = sum_first m (take j moves) in
        rw (yes, z) h

light_first : (w : ℕ) (m : Move) (moves : List Move) (t : Tally) → weight_of m ≡ 0 → capped (t.passed + operations_in (take (t.limit - suc w) moves)) ≡ capped (t.passed + operations_in (take (t.limit - w) (m ∷ moves)))
light_first w m moves t light = by (nat_le (suc w) t.limit) (first_of t.limit w m moves)
  where
    by : (b : Bool) → operations_in (take (t.limit - w) (m ∷ moves)) ≡ cond b (weight_of m) 0 + operations_in (take (t.limit - suc w) moves) → capped (t.passed + operations_in (take (t.limit - suc w) moves)) ≡ capped (t.passed + operations_in (take (t.limit - w) (m ∷ moves)))
    by true e = omega (arith, e, light)
    by false e = omega (arith, e)

pub tally_in_numbers : TallyInNumbers
tally_in_numbers w [] t l p = record { limit = refl; all = capped_here t.all l; passed = none (t.limit - w) }
  where
    none : (k : ℕ) → t.passed ≡ capped (t.passed + operations_in (take k []))
    none zero = capped_here t.passed p
    none (suc k) = capped_here t.passed p
tally_in_numbers w (quiet ∷ moves) t l p =
    let h = tally_in_numbers (suc w) moves t l p in
    record { limit = h.limit; all = h.all ∙ (let one = sum_first quiet moves in let z : capped (t.all + operations_in moves) ≡ capped (t.all + operations_in (quiet ∷ moves)) = omega (arith, one) in z); passed = h.passed ∙ light_first w quiet moves t refl }
tally_in_numbers w (mends m ∷ moves) t l p =
    let h = tally_in_numbers (suc w) moves t l p in
    record { limit = h.limit; all = h.all ∙ (let one = sum_first (mends m) moves in let z : capped (t.all + operations_in moves) ≡ capped (t.all + operations_in (mends m ∷ moves)) = omega (arith, one) in z); passed = h.passed ∙ light_first w (mends m) moves t refl }
tally_in_numbers w (commits o ∷ moves) t l p =
    let h = tally_in_numbers (suc w) moves (took_effect (suc w) t) (capped_low (t.all + 1)) (fits (nat_le (suc w) t.limit)) in
    record { limit = h.limit; all = h.all ∙ capped_twice t.all (operations_in moves) ∙ ap (λ n. capped (t.all + n)) (sym (one_more o moves)); passed = h.passed ∙ by (nat_le (suc w) t.limit) (first_of t.limit w (commits o) moves) }
  where
    fits : (b : Bool) → cond b (capped (t.passed + 1)) t.passed < 2 ^ 64
    fits true = capped_low (t.passed + 1)
    fits false = p

    by : (b : Bool) → operations_in (take (t.limit - w) (commits o ∷ moves)) ≡ cond b 1 0 + operations_in (take (t.limit - suc w) moves)
        → capped (cond b (capped (t.passed + 1)) t.passed + operations_in (take (t.limit - suc w) moves)) ≡ capped (t.passed + operations_in (take (t.limit - w) (commits o ∷ moves)))
    by true e = omega (arith, e)
    by false e = omega (arith, e)

-- ---- the machine's count
-- two counts that are alike as far as the limit goes
alike : (v w : ℕ) (moves : List Move) (t : Tally) → ((k : ℕ) → nat_le (v + suc k) t.limit ≡ nat_le (w + suc k) t.limit) → counted v moves t ≡ counted w moves t
alike v w [] t same = refl
alike v w (quiet ∷ moves) t same = alike (suc v) (suc w) moves t (further v w t same)
  where
    further : (v w : ℕ) (t : Tally) → ((k : ℕ) → nat_le (v + suc k) t.limit ≡ nat_le (w + suc k) t.limit) → (k : ℕ) → nat_le (suc v + suc k) t.limit ≡ nat_le (suc w + suc k) t.limit
    further v w t same k = let x : v + suc (suc k) ≡ suc v + suc k = omega arith in let y : w + suc (suc k) ≡ suc w + suc k = omega arith in sym (ap (λ n. nat_le n t.limit) x) ∙ same (suc k) ∙ ap (λ n. nat_le n t.limit) y
alike v w (mends m ∷ moves) t same = alike (suc v) (suc w) moves t (λ k. let x : v + suc (suc k) ≡ suc v + suc k = omega arith in let y : w + suc (suc k) ≡ suc w + suc k = omega arith in sym (ap (λ n. nat_le n t.limit) x) ∙ same (suc k) ∙ ap (λ n. nat_le n t.limit) y)
alike v w (commits o ∷ moves) t same =
    let x : v + 1 ≡ suc v = omega arith in
    let y : w + 1 ≡ suc w = omega arith in
    let here : nat_le (suc v) t.limit ≡ nat_le (suc w) t.limit = sym (ap (λ n. nat_le n t.limit) x) ∙ same 0 ∙ ap (λ n. nat_le n t.limit) y in
    alike (suc v) (suc w) moves (took_effect (suc v) t) (λ k. let x : v + suc (suc k) ≡ suc v + suc k = omega arith in let y : w + suc (suc k) ≡ suc w + suc k = omega arith in sym (ap (λ n. nat_le n t.limit) x) ∙ same (suc k) ∙ ap (λ n. nat_le n t.limit) y)
    ∙ ap (λ (b : Bool). counted (suc w) moves (record { limit = t.limit; passed = cond b (capped (t.passed + 1)) t.passed; all = capped (t.all + 1) })) here

pub tally_by_the_count : TallyByTheCount
tally_by_the_count w moves t low = alike (capped w) w moves t (λ k. past k)
  where
    past : (k : ℕ) → nat_le (capped w + suc k) t.limit ≡ nat_le (w + suc k) t.limit
    past k = grind (arith, nat_tests)

pub count_tells_what_was_written : CountTellsWhatWasWritten
count_tells_what_was_written a b nth grown first last small =
    let all : writes_in b.events ≡ writes_in a.events + writes_in (added a b) = ap writes_in grown.events ∙ writes-append a.events (added a b) in
    by all
  where
    by : writes_in b.events ≡ writes_in a.events + writes_in (added a b) → is_among a.writes nth b.writes ≡ nat_le nth (writes_in (added a b))
    by all = grind (arith, nat_tests)

-- ---- sessions
-- the shortest prefix with so many record writes has as many, or all
writes_at_place : (events : List Event) (n : ℕ) → writes_in (take (place_of_write events n) events) ≡ min n (writes_in events)
writes_at_place [] zero = refl
writes_at_place (Wrote at part words ∷ events) zero = omega arith
writes_at_place (Shown byte ∷ events) zero = omega arith
writes_at_place [] (suc n) = omega arith
writes_at_place (Wrote at part words ∷ events) (suc n) = let h = writes_at_place events n in omega (arith, h)
writes_at_place (Shown byte ∷ events) (suc n) = writes_at_place events (suc n)

pub tally_is_the_ruler : (means : Meaning Model Move) → TallyIsTheRuler means
tally_is_the_ruler means m n p events turns limit talks =
    let many = talks_writes means talks in
    let h = tally_in_numbers 0 (ops_of turns) (no_tally limit) (omega arith) (omega arith) in
    let z : capped (0 + operations_in (ops_of turns)) ≡ capped (operations_in (ops_of turns)) = omega arith in
    let y : capped (0 + operations_in (take (limit - 0) (ops_of turns))) ≡ capped (operations_in (take (limit - 0) (ops_of turns))) = omega arith in
    let x : limit - 0 ≡ limit = omega arith in
    record {
      all = h.all ∙ z;
      passed =
          h.passed ∙ y ∙ ap (λ k. capped (operations_in (take k (ops_of turns)))) x
          ∙ ap (λ l. capped (operations_in l)) (sym (take_min limit (ops_of turns)) ∙ ap (λ k. take (min limit k) (ops_of turns)) (sym many) ∙ ap (λ k. take k (ops_of turns)) (sym (writes_at_place events limit)));
    }
