use Rattle.std.proofs.Common.{◌+◌, ◌%◌, List, Bool, ltb, replicate, ap, ◌∙◌, w8}
use Rattle.std.specs.Simd.Lanes.{zip2, sel_l}
use Rattle.std.proofs.lemmas.Simd.{tops_compared}
use Rattle.alto_words.proofs.HexLanes.{lane_glyphs}
use Rattle.alto_words.proofs.numbers.digits_of_values.Goals as goal

pub returns : goal.returns
returns c =
    let values = c.args.values in
    ap (λ (letters : List Bool). zip2 (λ a b. (a + b) % 256) (zip2 (λ a b. (a + b) % 256) values (replicate 16 48)) (sel_l letters (replicate 16 39) (replicate 16 0)))
    (tops_compared w8 ltb (replicate 16 9) values)
    ∙ lane_glyphs 16 values c.fits-values.0 c.requires
