-- Record writes and moves, as many of one as of the other.
use Rattle.std.proofs.Common.{List, [], ap, arith, length, refl, subst, suc, sym, take, ℕ, ◌++◌, ◌+◌, ◌∙◌, ◌∷◌, ◌≡◌, ◌≤◌}
use Rattle.disk_records.specs.Events.{IsFirstOf}
use Rattle.disk_records.specs.Packs.{Pack, after}
use Rattle.disk_records.specs.declared.records.Event.{Event}
use Rattle.disk_records.specs.declared.records.Tally.{Tally}
use Rattle.exec_session.specs.laws_steps.proofs.runs.Laws as runs
use Rattle.pack_model.specs.operations.Operations.Move.{commits, mends, quiet}
use Rattle.pack_model.specs.operations.Operations.{Move}
use Rattle.pack_model.specs.sessions.Moves.{Meaning, Obeys, rest, steps, write}
use Rattle.pack_model.specs.sessions.Tallies.{counted, took_effect}

-- ---- as many as record writes
pub obeys_many : {M O : Type 0} {means : Meaning M O} {m : M} {p : Pack} {writes : List Event} {moves : List O} → Obeys means m p writes moves → length writes ≡ length moves
obeys_many {means = means} {m = m} {p = p} {writes = writes} {moves = moves} obeys = runs.obeys_many means m p writes moves obeys

pub first_few : (writes some : List Event) → IsFirstOf writes some → length some ≤ length writes
first_few writes [] h = omega arith
first_few [] (e ∷ some) h = absurd h
first_few (w ∷ writes) (e ∷ some) h = let few = first_few writes some h.1 in omega (arith, few)

pub take_past : {X : Type 0} (xs ys : List X) (k : ℕ) → take (length xs + k) (xs ++ ys) ≡ xs ++ take k ys
take_past [] ys k = let e : 0 + k ≡ k = omega arith in ap (λ n. take n ys) e
take_past (x ∷ xs) ys k = let e : suc (length xs) + k ≡ suc (length xs + k) = omega arith in ap (λ n. take n (x ∷ (xs ++ ys))) e ∙ ap (λ l. x ∷ l) (take_past xs ys k)

-- a tally keeps its limit
pub limit_stays : (w : ℕ) (moves : List Move) (t : Tally) → (counted w moves t).limit ≡ t.limit
limit_stays w [] t = refl
limit_stays w (quiet ∷ moves) t = limit_stays (suc w) moves t
limit_stays w (commits o ∷ moves) t = limit_stays (suc w) moves (took_effect (suc w) t)
limit_stays w (mends m ∷ moves) t = limit_stays (suc w) moves t

-- ---- where record writes end, and that none make none
pub obeys_ends : {M O : Type 0} {means : Meaning M O} {m : M} {p : Pack} {writes : List Event} {moves : List O} → Obeys means m p writes moves → means.Stands (steps means m moves) (after p writes)
obeys_ends (rest here) = here
obeys_ends (write here makes later) = obeys_ends later

pub none_obeyed : {M O : Type 0} (means : Meaning M O) (m : M) (p : Pack) (events : List Event) → events ≡ [] → means.Stands m p → Obeys means m p events []
none_obeyed means m p events none stands = subst (λ es. Obeys means m p es []) (sym none) (rest stands)
