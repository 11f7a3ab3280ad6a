use Rattle.std.proofs.Common.{◌==◌, ◌%◌, ◌^◌, Bool, List, leb, replicate, ap, ◌∙◌, arith, map, w8}
use Rattle.std.specs.Simd.Lanes.{mask_l}
use Rattle.std.proofs.lemmas.List.{length-map}
use Rattle.std.proofs.lemmas.Simd.{mask_l-mod, tops_compared, zip2_splat_left}
use Rattle.alto_words.proofs.HexLanes.{mask_none}
use Rattle.alto_words.proofs.numbers.are_values_of_digits.Goals as goal

pub returns : goal.returns
returns c =
    let values = c.args.values in
    ap (λ (marks : List Bool). mask_l marks % 2 ^ 64 == 0) (tops_compared w8 leb (replicate 16 16) values ∙ zip2_splat_left leb 16 16 values c.fits-values.0)
    ∙ ap (λ n. n == 0) (mask_l-mod (map (leb 16) values) 64 (omega (arith, length-map values (leb 16), c.fits-values.0)))
    ∙ mask_none values
