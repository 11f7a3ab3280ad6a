-- The tally over the calls of a line.
use Rattle.std.proofs.Common.{List, Result, [], ap, arith, length, refl, subst, suc, sym, take, ℕ, ◌++◌, ◌+◌, ◌<◌, ◌^◌, ◌∙◌, ◌∷◌, ◌≡◌}
use Rattle.std.proofs.lemmas.List.{append-nil, length-append}
use Rattle.laws_hint.specs.disk_records.proofs.Growing.{writes-append}
use Rattle.laws_hint.specs.disk_records.specs.Events.{IsFirstOf, writes_in}
use Rattle.laws_hint.specs.disk_records.specs.Packs.{Pack}
use Rattle.laws_hint.specs.disk_records.specs.Tapes.{added, capped, pack}
use Rattle.laws_hint.specs.disk_records.specs.declared.records.Event.{Event}
use Rattle.laws_hint.specs.disk_records.specs.declared.records.Tally.{Tally}
use Rattle.laws_call.specs.Acting.{Around, begun, refused, releasing, unreleased}
use Rattle.laws_call.specs.CountLaws.{CallIsCounted, CallIsCountedOn, CountOfACall, CountedSoFar, CountsOn, QuietCallIsCounted, ReleasesAreCounted}
use Rattle.laws_hint.specs.laws_operation.proofs.drop.Laws.{release_carries_out}
use Rattle.laws_hint.specs.laws_operation.specs.LifeLaws.{first_moves}
use Rattle.laws_hint.specs.pack_laws.proofs.tallies.Laws.{quiet_moves_are_not_counted, tallies_join, tally_by_the_count}
use Rattle.laws_hint.specs.pack_model.specs.operations.Committing.{moves_of}
use Rattle.laws_hint.specs.pack_model.specs.operations.Operations.Move.{commits, mends, quiet}
use Rattle.laws_hint.specs.pack_model.specs.operations.Operations.{Move}
use Rattle.laws_hint.specs.pack_model.specs.reading.Model.{read_as}
use Rattle.laws_hint.specs.pack_model.specs.sessions.Moves.{Meaning, Obeys, rest, write}
use Rattle.laws_hint.specs.pack_model.specs.sessions.Tallies.{CountsMoves, Tells, counted, took_effect}

-- a tally keeps its limit
limit_stays : (w : ℕ) (moves : List Move) (t : Tally) → (counted w moves t).limit ≡ t.limit
limit_stays w [] t = refl
limit_stays w (quiet ∷ moves) t = limit_stays (suc w) moves t
limit_stays w (commits o ∷ moves) t = limit_stays (suc w) moves (took_effect (suc w) t)
limit_stays w (mends m ∷ moves) t = limit_stays (suc w) moves t

-- ---- the tally
-- after a call that made these moves
tally_on : {T E : Type 0} (w : ℕ) (t : Tally) (moves next : List Move) (fault : E) (old new : Around) (result : Result T E) → t.limit < 2 ^ 64 → CountedSoFar w t moves old → CountsMoves fault old.tape new.tape next old.tally new.tally result → Tells fault new.tape result
    → new.tally ≡ counted w (moves ++ next) t
tally_on w t moves next fault old new result low so_far counts tells =
    counts tells ∙ ap (λ n. counted n next old.tally) so_far.writes ∙ ap (counted (capped (w + length moves)) next) so_far.tally
    ∙ tally_by_the_count (w + length moves) next (counted w moves t) (subst (λ n. n < 2 ^ 64) (sym (limit_stays w moves t)) low)
    ∙ sym (tallies_join w moves next t).whole

-- after a call without record writes
tally_stays : (w : ℕ) (t : Tally) (moves all : List Move) (events : List Event) → events ≡ [] → counted w moves t ≡ counted w (moves ++ take (length events) all) t
tally_stays w t moves all events silent = ap (λ l. counted w l t) (sym (append-nil moves) ∙ ap (λ (l : List Event). moves ++ take (length l) all) (sym silent))

pub call_is_counted : (T E : Type 0) → CallIsCounted T E
call_is_counted T E w t moves fault memory o claimed old new result low so_far (refused calm bad rich) tells =
    calm.tally ∙ so_far.tally ∙ tally_stays w t moves (moves_of (read_as (pack old.tape)) o) (added old.tape new.tape) calm.silent
call_is_counted T E w t moves fault memory o claimed old new result low so_far (begun b) tells =
    tally_on w t moves (take (length (added old.tape new.tape)) (moves_of (read_as (pack old.tape)) o)) fault old new result low so_far b.counts tells

-- ---- the count
pub count_of_a_call : CountOfACall
count_of_a_call a b grown first last =
    let all : writes_in b.events ≡ writes_in a.events + writes_in (added a b) = ap writes_in grown.events ∙ writes-append a.events (added a b) in
    omega (arith, all, first, last)

-- a prefix of record writes has as many as moves were made
obeys_counts : {M O : Type 0} {means : Meaning M O} {m : M} {p : Pack} {writes : List Event} {moves : List O} → Obeys means m p writes moves → (some : List Event) → IsFirstOf writes some → writes_in some ≡ length (take (length some) moves)
obeys_counts o [] h = refl
obeys_counts (rest here) (e ∷ some) h = absurd h
obeys_counts (write {ops = ops} here makes later) (e ∷ some) h =
    let next : 1 + length (take (length some) ops) ≡ suc (length (take (length some) ops)) = omega arith in
    ap (λ (x : Event). writes_in (x ∷ some)) h.0 ∙ ap (λ k. 1 + k) (obeys_counts later some h.1) ∙ next

none_counts : (moves : List Move) (events : List Event) → events ≡ [] → writes_in events ≡ length (take (length events) moves)
none_counts moves events silent = ap writes_in silent ∙ ap (λ (l : List Event). length (take (length l) moves)) (sym silent)

count_on : (w : ℕ) (t : Tally) (moves next : List Move) (old new : Around) → CountedSoFar w t moves old → CountsOn old.tape new.tape → writes_in (added old.tape new.tape) ≡ length next → new.tape.writes ≡ capped (w + length (moves ++ next))
count_on w t moves next old new so_far counts many =
    let sum : length (moves ++ next) ≡ length moves + length next = length-append moves next in
    let before = so_far.writes in
    omega (arith, sum, before, counts, many)

pub call_is_counted_on : (T E : Type 0) → CallIsCountedOn T E
call_is_counted_on T E w t moves fault memory o claimed old new result low so_far counts operates tells = record {
  writes = count_on w t moves (take (length (added old.tape new.tape)) (moves_of (read_as (pack old.tape)) o)) old new so_far counts (elim operates [
    | refused calm bad rich ↦ none_counts (moves_of (read_as (pack old.tape)) o) (added old.tape new.tape) calm.silent
    | begun b ↦ obeys_counts b.acts.stays.obeys (added old.tape new.tape) b.some
  ]);
  tally = call_is_counted T E w t moves fault memory o claimed old new result low so_far operates tells;
}

pub releases_are_counted : (T E : Type 0) → ReleasesAreCounted T E
releases_are_counted T E w t moves fault memory f old new result low so_far counts whole tidy (unreleased calm bad rich) tells = record {
  writes = count_on w t moves (take (length (added old.tape new.tape)) (first_moves (pack old.tape) f)) old new so_far counts (none_counts (first_moves (pack old.tape) f) (added old.tape new.tape) calm.silent);
  tally = calm.tally ∙ so_far.tally ∙ tally_stays w t moves (first_moves (pack old.tape) f) (added old.tape new.tape) calm.silent;
}
releases_are_counted T E w t moves fault memory f old new result low so_far counts whole tidy (releasing r) tells = record {
  writes = count_on w t moves (take (length (added old.tape new.tape)) (first_moves (pack old.tape) f)) old new so_far counts (obeys_counts (release_carries_out (pack old.tape) f r.at r.pages whole tidy r.may).drops.obeys (added old.tape new.tape) r.some);
  tally = tally_on w t moves (take (length (added old.tape new.tape)) (first_moves (pack old.tape) f)) fault old new result low so_far r.counts tells;
}

pub quiet_call_is_counted : QuietCallIsCounted
quiet_call_is_counted w t moves still old new so_far counts same none many = record {
  writes = count_on w t moves still old new so_far counts (sym many);
  tally = same ∙ so_far.tally ∙ sym (quiet_moves_are_not_counted (w + length moves) still (counted w moves t) none) ∙ sym (tallies_join w moves still t).whole;
}
