-- How the operation of a call is counted by a machine's count of record writes.
use Rattle.std.proofs.Common.{Bool, List, ap, arith, cond, false, length, nat_le, refl, sym, true, [], ℕ, ◌+◌, ◌<◌, ◌^◌, ◌∙◌, ◌∷◌, ◌≡◌, ◌≤◌}
use Rattle.std.proofs.lemmas.Bool.Decides.{nat_tests}
use Rattle.disk_records.specs.Events.{IsFirstOf}
use Rattle.disk_records.specs.Tapes.{capped}
use Rattle.disk_records.specs.declared.records.Event.{Event}
use Rattle.disk_records.specs.declared.records.Tally.{Tally}
use Rattle.pack_model.specs.sessions.Tallies.{took_effect}

le_of : (m n : ℕ) → nat_le m n ≡ true → m ≤ n
le_of m n is = grind (arith, nat_tests)

gt_of : (m n : ℕ) → nat_le m n ≡ false → n < m
gt_of m n is = grind (arith, nat_tests)

-- a record write of two calls, by the count after the first: it is among the first ones that count, or isn't, by either count
same_among : (b a x y more nth limit : ℕ) → b ≡ capped x → a ≡ capped y → x ≡ y + more → limit < 2 ^ 64 → 1 ≤ nth → nat_le (b + nth) limit ≡ nat_le (a + (more + nth)) limit
same_among b a x y more nth limit bx ay next small some = by (nat_le (b + nth) limit) refl (nat_le (a + (more + nth)) limit) refl
  where
    by : (p : Bool) → nat_le (b + nth) limit ≡ p → (q : Bool) → nat_le (a + (more + nth)) limit ≡ q → nat_le (b + nth) limit ≡ nat_le (a + (more + nth)) limit
    by true ip true iq = ip ∙ sym iq
    by false ip false iq = ip ∙ sym iq
    by true ip false iq = let low = le_of (b + nth) limit ip in let high = gt_of (a + (more + nth)) limit iq in absurd (omega (arith, low, high, bx, ay, next, small, some))
    by false ip true iq = let high = gt_of (b + nth) limit ip in let low = le_of (a + (more + nth)) limit iq in absurd (omega (arith, low, high, bx, ay, next, small, some))

-- so both count the operation alike
pub effect_by_the_count : (b a x y more nth : ℕ) (t : Tally) → b ≡ capped x → a ≡ capped y → x ≡ y + more → t.limit < 2 ^ 64 → 1 ≤ nth → took_effect (b + nth) t ≡ took_effect (a + (more + nth)) t
effect_by_the_count b a x y more nth t bx ay next small some =
    ap (λ (k : Bool). record { limit = t.limit; passed = cond k (capped (t.passed + 1)) t.passed; all = capped (t.all + 1) }) (same_among b a x y more nth t.limit bx ay next small some)

-- a prefix of a list are no more than it has
pub first_length : (ws events : List Event) → IsFirstOf ws events → length events ≤ length ws
first_length ws [] h = omega arith
first_length [] (x ∷ events) h = elim h [ ]
first_length (w ∷ ws) (x ∷ events) h = let less = first_length ws events h.1 in omega (arith, less)
