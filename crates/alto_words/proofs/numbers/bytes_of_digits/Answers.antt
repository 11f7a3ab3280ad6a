use Rattle.std.proofs.Common.{ℕ, ◌≡◌, ◌*◌, ◌%◌, ◌^◌, ◌<◌, ◌++◌, List, [], ◌∷◌, length, length-append, max, replicate, bit_or, ap, sym, ◌∙◌, arith, w8}
use Rattle.std.specs.List.{list_all}
use Rattle.std.specs.Simd.Lanes.{Each1, zip2}
use Rattle.std.proofs.lemmas.Simd.{below_from_Fits}
use Rattle.alto_words.specs.Numbers.{bytes_if, digit_value, is_digit_value}
use Rattle.alto_words.proofs.HexLanes.{deinterleaved, deinterleaved_greater, hex_pairs-paired, max_lanes}
use Rattle.alto_words.proofs.numbers.bytes_of_digits.Goals as goal

pub returns-clause-length : goal.returns-clause-length
returns-clause-length c =
    (λ i. length (zip2 bit_or (zip2 (λ a b. a * 2 ^ b % 2 ^ 8) (c.values_of_digits-high.ensures i) (replicate 16 4)) (c.values_of_digits-low.ensures i)))

pub returns-clause-lanes : goal.returns-clause-lanes
returns-clause-lanes c =
    ap length (max_lanes c.values_of_digits-high.result c.values_of_digits-low.result)
    ∙ (λ i. length (zip2 max (c.values_of_digits-high.ensures i) (c.values_of_digits-low.ensures i)))

Each1-append : (P : ℕ → Type 0) (xs ys : List ℕ) → Each1 P xs → Each1 P ys → Each1 P (xs ++ ys)
Each1-append P [] ys all more = more
Each1-append P (x ∷ xs) ys all more = (all.0, Each1-append P xs ys all.1 more)

pub returns-clause-bytes : goal.returns-clause-bytes
returns-clause-bytes c =
    let front = c.args.front in
    let back = c.args.back in
    let text = front ++ back in
    let high = c.values_of_digits-high in
    let low = c.values_of_digits-low in
    let long : length text ≡ 32 = omega (arith, length-append front back, c.fits-front.0, c.fits-back.0) in
    let fit : Each1 (λ x. x < 2 ^ 8) text = Each1-append (λ x. x < 2 ^ 8) front back (below_from_Fits w8 front c.fits-front.1) (below_from_Fits w8 back c.fits-back.1) in
    hex_pairs-paired text fit (omega (arith, long))
    ∙ (λ i. bytes_if (list_all is_digit_value (sym (deinterleaved_greater digit_value text long) i)) (sym (deinterleaved digit_value text long) i))
    ∙ (λ i. bytes_if (list_all is_digit_value (zip2 max (sym high.ensures i) (sym low.ensures i)))
    (zip2 bit_or (zip2 (λ a b. a * 2 ^ b % 2 ^ 8) (sym high.ensures i) (replicate 16 4)) (sym low.ensures i)))
    ∙ (λ i. bytes_if (list_all is_digit_value (sym (max_lanes high.result low.result) i)) (zip2 bit_or (zip2 (λ a b. a * 2 ^ b % 2 ^ 8) high.result (replicate 16 4)) low.result))
