use Rattle.std.proofs.Common.{ℕ, ◌≡◌, ◌/◌, ◌%◌, ◌^◌, ◌<◌, false, List, [], ◌∷◌, ◌++◌, map, refl, ap, sym, subst, ◌∙◌, arith, bit_and, w8}
use Rattle.std.specs.Fmt.{digit_glyph}
use Rattle.std.specs.Simd.Lanes.{Each1, pick_l}
use Rattle.std.proofs.lemmas.Nat.{and_mask}
use Rattle.std.proofs.lemmas.Simd.{zip2_splat, map-map, below_from_Fits}
use Rattle.alto_words.proofs.HexLanes.{Each1-map, interleaved, front_places, back_places}
use Rattle.alto_words.proofs.numbers.digits_of_block.Goals as goal

pub digits_of_values-requires : goal.digits_of_values-requires
digits_of_values-requires c =
    subst (Each1 (λ v. v < 16)) (sym (zip2_splat _ c.args.block 16 4 c.fits-block.0))
    (Each1-map (λ b. b < 2 ^ 8) (λ v. v < 16) (λ x. x / 16) (λ x small. omega (arith, small)) c.args.block (below_from_Fits w8 c.args.block c.fits-block.1))

pub digits_of_values-requires-2 : goal.digits_of_values-requires-2
digits_of_values-requires-2 c =
    subst (Each1 (λ v. v < 16)) (sym (zip2_splat bit_and c.args.block 16 15 c.fits-block.0))
    (Each1-map (λ b. b < 2 ^ 8) (λ v. v < 16) (λ x. bit_and x 15) (λ x small. omega (arith, and_mask x 4)) c.args.block (below_from_Fits w8 c.args.block c.fits-block.1))

masked : (xs : List ℕ) → map (λ x. bit_and x 15) xs ≡ map (λ x. x % 16) xs
masked [] = refl
masked (x ∷ xs) = λ i. and_mask x 4 i ∷ masked xs i

pub returns-clause-digits : goal.returns-clause-digits
returns-clause-digits c =
    let high : c.digits_of_values.result ≡ map (λ x. digit_glyph false (x / 16)) c.args.block =
    c.digits_of_values.ensures ∙ ap (map (digit_glyph false)) (zip2_splat _ c.args.block 16 4 c.fits-block.0) ∙ map-map (digit_glyph false) (λ x. x / 16) c.args.block in
    let low : c.digits_of_values-2.result ≡ map (λ x. digit_glyph false (x % 16)) c.args.block =
    c.digits_of_values-2.ensures ∙ ap (map (digit_glyph false)) (zip2_splat bit_and c.args.block 16 15 c.fits-block.0 ∙ masked c.args.block) ∙ map-map (digit_glyph false) (λ x. x % 16) c.args.block in
    (λ i. pick_l 0 (high i ++ low i) front_places ++ pick_l 0 (high i ++ low i) back_places)
    ∙ interleaved (λ x. digit_glyph false (x / 16)) (λ x. digit_glyph false (x % 16)) c.args.block c.fits-block.0
