-- The first free bit from an address on.
use Rattle.std.proofs.Common.{◌≡◌, ℕ, zero, suc, ◌+◌, ◌-◌, ◌<◌, ◌≤◌, Bool, true, false, not, cond, List, [], ◌∷◌, length, take, drop, get_or, Option, Some, None, position, IfNone, refl, sym, ◌∙◌, ap, arith, nat_lt, length-drop, take-add}
use Rattle.std.specs.List.{list_all, position_or_len}
use Rattle.std.specs.Option.{option_map}
use Rattle.std.proofs.lemmas.Bool.{ltb-true, ltb-false, lt-ltb, le-ltb}
use Rattle.std.proofs.lemmas.List.{get_or-drop, take_all}
use Rattle.std.proofs.lemmas.List.Folds.{list_all-append}
use Rattle.std.proofs.lemmas.List.Quantifiers.{position-Some}
use Rattle.std.proofs.lemmas.List.Sums.{fails_before_first}
use Rattle.hint_cache.specs.Bits.{busy_at}

not_false : (b : Bool) → not b ≡ false → b ≡ true
not_false true e = refl
not_false false e = sym e

not_true : (b : Bool) → not b ≡ true → b ≡ false
not_true true e = sym e
not_true false e = refl

-- the bits from an address on
pub rest_from : {bits table : List Bool} {start from : ℕ} → start ≡ from → bits ≡ table → take (length bits - start) (drop start bits) ≡ drop from table
rest_from {bits} {table} {start} {from} same is =
    let rest = length-drop start bits in
    take_all (length bits - start) (drop start bits) (omega (arith, rest)) ∙ ap (λ (n : ℕ). drop n bits) same ∙ ap (drop from) is

-- a bit of them
bit_from : (bits : List Bool) (from k : ℕ) → from ≤ k → get_or (drop from bits) (k - from) true ≡ busy_at bits k
bit_from bits from k later = let there : from + (k - from) ≡ k = omega arith in get_or-drop from bits (k - from) true ∙ ap (busy_at bits) there

module _ (bits : List Bool) (from i : ℕ) (is : position not (drop from bits) ≡ Some i) where
  pub free_inside : from ≤ length bits → from + i < length bits
  free_inside low = let found = position-Some not (drop from bits) i true is in let rest = length-drop from bits in omega (arith, found.0, rest)

  pub free_there : busy_at bits (from + i) ≡ false
  free_there = sym (get_or-drop from bits i true) ∙ not_true (get_or (drop from bits) i true) (position-Some not (drop from bits) i true is).1

  pub busy_before : (k : ℕ) → from ≤ k → k < from + i → busy_at bits k ≡ true
  busy_before k later before = sym (bit_from bits from k later) ∙ not_false (get_or (drop from bits) (k - from) true) ((position-Some not (drop from bits) i true is).2 (k - from) (omega arith))

none_before : (xs : List Bool) → position not xs ≡ None → length xs ≤ position_or_len not xs
none_before xs is = by (nat_lt (position_or_len not xs) (length xs)) refl is
  where
    by : (b : Bool) → nat_lt (position_or_len not xs) (length xs) ≡ b → cond b (Some (position_or_len not xs)) None ≡ None → length xs ≤ position_or_len not xs
    by true t e = let no : Some (position_or_len not xs) ≡ None = e in cc
    by false t e = ltb-false (position_or_len not xs) (length xs) t

pub all_busy : (bits : List Bool) (from : ℕ) → position not (drop from bits) ≡ None → (k : ℕ) → from ≤ k → k < length bits → busy_at bits k ≡ true
all_busy bits from is k later inside =
    let rest = length-drop from bits in
    let past = none_before (drop from bits) is in
    sym (bit_from bits from k later) ∙ not_false (get_or (drop from bits) (k - from) true) (fails_before_first not (drop from bits) (k - from) true (omega (arith, rest, past)))

pub as_none : {X : Type 0} {P : Type 0} (answer : Option X) → P → IfNone answer P
as_none None is = is
as_none (Some x) is = tt

-- ---- bits that are passed over
-- busy ones, and after them more of them
pub busy_on : (m n : ℕ) (bits : List Bool) → list_all (λ b. b) (take m bits) ≡ true → list_all (λ b. b) (take n (drop m bits)) ≡ true → list_all (λ b. b) (take (m + n) bits) ≡ true
busy_on m n bits before more = ap (list_all (λ b. b)) (take-add m n bits) ∙ list_all-append (λ b. b) (take m bits) (take n (drop m bits)) ∙ rw (before, more) refl

one_later : (i n : ℕ) → cond (nat_lt (1 + i) (suc n)) (Some (1 + i)) None ≡ option_map suc (cond (nat_lt i n) (Some i) None)
one_later i n = (elim (nat_lt i n) as (λ b. nat_lt i n ≡ b → cond (nat_lt (1 + i) (suc n)) (Some (1 + i)) None ≡ option_map suc (cond b (Some i) None)) [
  | true ↦ λ is. ap (λ b. cond b (Some (1 + i)) None) (lt-ltb (1 + i) (suc n) (omega (arith, ltb-true i n is))) ∙ ap Some (omega arith)
  | false ↦ λ is. ap (λ b. cond b (Some (1 + i)) None) (le-ltb (1 + i) (suc n) (omega (arith, ltb-false i n is)))
]) refl

moved_on : (n : ℕ) (at : Option ℕ) → option_map suc (option_map (λ i. n + i) at) ≡ option_map (λ i. suc n + i) at
moved_on n None = refl
moved_on n (Some i) = ap Some (omega arith)

not_moved : (at : Option ℕ) → at ≡ option_map (λ i. 0 + i) at
not_moved None = refl
not_moved (Some i) = ap Some (omega arith)

-- the first free bit is the first after busy ones
pub first_after : (n : ℕ) (bits : List Bool) → list_all (λ b. b) (take n bits) ≡ true → position not bits ≡ option_map (λ i. n + i) (position not (drop n bits))
first_after zero bits busy = not_moved (position not bits)
first_after (suc n) [] busy = refl
first_after (suc n) (true ∷ bits) busy = one_later (position_or_len not bits) (length bits) ∙ ap (option_map suc) (first_after n bits busy) ∙ moved_on n (position not (drop n bits))
first_after (suc n) (false ∷ bits) busy = cc
