-- Even numbers, the sizes that requests take, and where a zone ends.
use Rattle.std.proofs.Common.{◌≡◌, ◌≤◌, ℕ, ◌+◌, ◌-◌, ◌*◌, ◌/◌, List, refl, sym, ap, ◌∙◌, length, take, drop, arith}
use Rattle.std.proofs.Math.Nat.{add-div_right, mul-div_cancel}
use Rattle.std.proofs.lemmas.List.{length-drop, length-take-le}
use Rattle.world_model.specs.Zones.{size_for}
use Rattle.world_model.specs.ZoneWords.{tag_size, zone_start}
use Rattle.laws_zone.specs.Filling.{IsTop}

-- ---- even numbers
pub twice : (h n : ℕ) → n ≡ h * 2 → tag_size n ≡ n
twice h n e = let two : 1 ≤ 2 = omega arith in ap tag_size e ∙ ap (λ k. k * 2) (mul-div_cancel h two) ∙ sym e

pub even_sum : (n k : ℕ) → tag_size n ≡ n → tag_size k ≡ k → tag_size (n + k) ≡ n + k
even_sum n k one two = let e : n + k ≡ (n / 2 + k / 2) * 2 = omega (arith, one, two) in twice (n / 2 + k / 2) (n + k) e

pub even_rest : (n k : ℕ) → tag_size n ≡ n → tag_size k ≡ k → k ≤ n → tag_size (n - k) ≡ n - k
even_rest n k one two less = let e : n - k ≡ (n / 2 - k / 2) * 2 = omega (arith, one, two, less) in twice (n / 2 - k / 2) (n - k) e

-- ---- the words that a request takes
pub size_even : (n : ℕ) → tag_size (size_for n) ≡ size_for n
size_even n = twice ((n + 2) / 2) (size_for n) refl

pub some_size : (n : ℕ) → 1 ≤ size_for n
some_size n =
    let two : 1 ≤ 2 = omega arith in
    let more : (n + 2) / 2 ≡ n / 2 + 1 = add-div_right n two in
    omega (arith, more)

-- ---- the end of a zone
pub low_of : (top : ℕ) → IsTop top → zone_start ≤ top
low_of top t = let after = t.after in omega (arith, after)

-- the words between two addresses
pub part_length : (top k n : ℕ) (memory : List ℕ) → length memory ≡ n → k ≤ top → top ≤ n → length (take (top - k) (drop k memory)) ≡ top - k
part_length top k n memory long low high = let rest = length-drop k memory in length-take-le (top - k) (drop k memory) (omega (arith, rest, long, low, high))
