-- Keys that were read ahead, and those of them that end no line.
use Rattle.std.proofs.Common.{◌≡◌, ◌≢◌, ◌⊎◌, ℕ, zero, suc, ◌-◌, ◌<◌, ◌≤◌, inl, inr, Bool, true, false, cond, List, [], ◌∷◌, ◌++◌, length, get_or, take, drop, Option, None, Some, sym, ap, ◌∙◌, arith, length-drop, eq-eqb, take-append-drop}
use Rattle.std.proofs.lemmas.Bool.{cases_lt}
use Rattle.std.proofs.lemmas.List.{take-append-le}
use Rattle.std.specs.Io.KnownBytes.{Consumes, prepend_known}
use Rattle.std.specs.Io.BufRead.{DropsConsumable}
use Rattle.memchr.specs.Find.{Nowhere, Passes, is_byte}
use Rattle.disk_records.specs.Tapes.{IsUnbroken}

-- the first n of k keys, none of which is the byte 10
pub unbroken_before : (n k : ℕ) (keys : List ℕ) → n ≤ k → Nowhere (Passes (is_byte 10) keys) 0 k → IsUnbroken (take n keys)
unbroken_before zero k keys within none = tt
unbroken_before (suc n) k [] within none = tt
unbroken_before (suc n) k (key ∷ keys) within none =
    (λ is. none 0 (omega arith) (omega arith) (eq-eqb key 10 is), unbroken_before n (k - 1) keys (omega arith) (λ i low high is. none (suc i) (omega arith) (omega arith) is))

-- the first keys that were read ahead are the first that are left
pub consumes_first : (none : Bool) (ready : List ℕ) (inner new : Option (List ℕ)) (count : ℕ) → count ≤ length ready → DropsConsumable (cond none None (prepend_known ready inner)) new (Some (length ready)) count → Consumes (cond none None (prepend_known ready inner)) new (take count ready)
consumes_first true ready inner new count within dropped = tt
consumes_first false ready None new count within dropped = tt
consumes_first false ready (Some rest) new count within dropped =
    rw (dropped within) (sym (take-append-drop count (ready ++ rest)) ∙ ap (λ l. l ++ drop count (ready ++ rest)) (take-append-le count ready rest within))

-- a key of some that are first in a list isn't the byte 10, where none of them is
pub unbroken_at : (n : ℕ) (keys : List ℕ) (i : ℕ) → IsUnbroken (take n keys) → i < n → i < length keys → get_or keys i 0 ≢ 10
unbroken_at zero keys i unbroken within inside = absurd (omega (arith, within))
unbroken_at (suc n) [] i unbroken within inside = absurd (omega (arith, inside))
unbroken_at (suc n) (key ∷ keys) zero unbroken within inside = unbroken.0
unbroken_at (suc n) (key ∷ keys) (suc i) unbroken within inside = unbroken_at n keys i unbroken.1 (omega (arith, within)) (omega (arith, inside))

-- where keys are taken that end no line, and no line end is left after them, there was none before
pub no_line_before : (after n : ℕ) (keys : List ℕ) → (after < length keys → get_or keys (length keys - after - 1) 0 ≡ 10) → IsUnbroken (take n keys) → length (drop n keys) ≤ after → length keys ≤ after
no_line_before after n keys ends unbroken none = by (cases_lt after (length keys))
  where
    by : (after < length keys) ⊎ (length keys ≤ after) → length keys ≤ after
    by (inl more) = absurd (unbroken_at n keys (length keys - after - 1) unbroken (omega (arith, length-drop n keys, none, more)) (omega (arith, more)) (ends more))
    by (inr no_line) = no_line
