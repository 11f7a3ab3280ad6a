-- Bits as the digits of a number, the most significant first.
use Rattle.std.proofs.Common.{◌≡◌, ℕ, zero, suc, ◌+◌, ◌-◌, ◌*◌, ◌/◌, ◌%◌, ◌^◌, ◌<◌, ◌≤◌, ◌==◌, Bool, true, false, cond, List, get_or, refl, sym, ◌∙◌, ap, add-one, lit<, arith}
use Rattle.std.proofs.Math.Nat.{pow-le-pow_right}
use Rattle.std.specs.Int.{bit_at}
use Rattle.std.proofs.lemmas.Nat.Bits.{bit_at_lowest, bit_at-suc}
use Rattle.hint_cache.specs.Bits.{number_of, digit_at, is_one}

digit_at-le : (bits : List Bool) (at : ℕ) → digit_at bits at ≤ 1
digit_at-le bits at = elim (get_or bits at false) as (λ b. cond b 1 0 ≤ 1) [ true ↦ omega arith | false ↦ omega arith ]

pub number_of-lt : (bits : List Bool) (at n : ℕ) → number_of bits at n < 2 ^ n
unfolding number_of
number_of-lt bits at zero = omega arith
number_of-lt bits at (suc n) =
    let rest = number_of-lt bits at n in
    let digit = digit_at-le bits (at + n) in
    omega (arith, rest, digit)

-- each digit, counted from the least significant
bit_at-number_of : (bits : List Bool) (at k i n : ℕ) → k + suc i ≡ n → bit_at (number_of bits at n) k ≡ digit_at bits (at + i)
unfolding number_of
bit_at-number_of bits at k i zero e = absurd (omega arith)
bit_at-number_of bits at zero i (suc n) e =
    let same : i ≡ n = omega arith in
    let digit = digit_at-le bits (at + n) in
    let low : (number_of bits at n * 2 + digit_at bits (at + n)) % 2 ≡ digit_at bits (at + n) = omega (arith, digit) in
    bit_at_lowest (number_of bits at (suc n)) ∙ low ∙ ap (λ (m : ℕ). digit_at bits (at + m)) (sym same)
bit_at-number_of bits at (suc k) i (suc n) e =
    let digit = digit_at-le bits (at + n) in
    let half : (number_of bits at n * 2 + digit_at bits (at + n)) / 2 ≡ number_of bits at n = omega (arith, digit) in
    bit_at-suc (number_of bits at (suc n)) k ∙ ap (λ (m : ℕ). bit_at m k) half ∙ bit_at-number_of bits at k i n (omega arith)

-- a word that was made of bits has them
pub is_one-number_of : (bits : List Bool) (at i : ℕ) → i < 16 → is_one (number_of bits at 16) i ≡ get_or bits (at + i) false
is_one-number_of bits at i h =
    ap (λ (m : ℕ). m == 1) (bit_at-number_of bits at (15 - i) i 16 (omega arith))
    ∙ elim (get_or bits (at + i) false) as (λ b. (cond b 1 0 == 1) ≡ b) [ true ↦ refl | false ↦ refl ]

-- one digit more
pub number_of-more : (bits : List Bool) (at n : ℕ) → number_of bits at (n + 1) ≡ number_of bits at n * 2 + digit_at bits (at + n)
unfolding number_of
number_of-more bits at n = rw add-one refl

-- up to 16 digits make a word
pub number_fits : (bits : List Bool) (at n : ℕ) → n ≤ 16 → number_of bits at n < 65536
number_fits bits at n h =
    let below = number_of-lt bits at n in
    let most : 2 ^ n ≤ 2 ^ 16 = pow-le-pow_right (lit< tt) h in
    omega (arith, below, most)
