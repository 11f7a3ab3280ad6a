-- The first word of a text.
use Rattle.std.proofs.Common.{◌≡◌, ℕ, ◌+◌, ◌-◌, ◌≤◌, List, [], length, take, drop, Some, None, Bool, true, false, cond, refl, sym, ◌∙◌, ap, arith, nat_lt, length-drop}
use Rattle.std.specs.Prelude.{position}
use Rattle.std.specs.List.{position_or_len, before_first, after_first}
use Rattle.std.proofs.lemmas.List.{take_all, drop_all}
use Rattle.std.proofs.lemmas.Bool.{ltb-false}

module _ {X : Type 0} (p : X → Bool) (xs : List X) where
  place_cases : (b : Bool) (n i : ℕ) → cond b (Some n) None ≡ Some i → n ≡ i
  place_cases true n i e = cc
  place_cases false n i e = let f : None ≡ Some i = e in cc

  none_cases : (b : Bool) (n : ℕ) → cond b (Some n) None ≡ None → b ≡ false
  none_cases true n e = let f : Some n ≡ None = e in cc
  none_cases false n e = refl

  -- the place that is found is that of the first
  found_place : (i : ℕ) → position p xs ≡ Some i → position_or_len p xs ≡ i
  found_place i e = place_cases (nat_lt (position_or_len p xs) (length xs)) (position_or_len p xs) i e

  -- where none is found all stands before it
  no_place : position p xs ≡ None → length xs ≤ position_or_len p xs
  no_place e = ltb-false (position_or_len p xs) (length xs) (none_cases (nat_lt (position_or_len p xs) (length xs)) (position_or_len p xs) e)

  -- the text before the place that is found, and after it
  pub before_place : (i : ℕ) → position p xs ≡ Some i → take i xs ≡ before_first p xs
  before_place i e = ap (λ n. take n xs) (sym (found_place i e))

  pub after_place : (i : ℕ) → position p xs ≡ Some i → take (length xs - (i + 1)) (drop (i + 1) xs) ≡ after_first p xs
  after_place i e =
      take_all (length xs - (i + 1)) (drop (i + 1) xs) (omega (arith, length-drop (i + 1) xs))
      ∙ ap (λ n. drop (n + 1) xs) (sym (found_place i e))

  -- where none is found
  pub before_none : position p xs ≡ None → xs ≡ before_first p xs
  before_none e = sym (take_all (position_or_len p xs) xs (no_place e))

  pub after_none : position p xs ≡ None → [] ≡ after_first p xs
  after_none e = let h = no_place e in sym (drop_all (position_or_len p xs + 1) xs (omega arith))
