use Rattle.std.proofs.Common.{◌+◌, ◌*◌, ◌++◌, take, ap, ◌∙◌, append_assoc, arith}
use Rattle.std.specs.Simd.Lanes.{put_chunk}
use Rattle.std.proofs.lemmas.Simd.{take_more_put_chunk, length-put_chunk}
use Rattle.alto_words.proofs.numbers.put_block.Goals as goal

pub returns-clause-digits : goal.returns-clause-digits
returns-clause-digits c =
    let old = c.args.digits.now in
    let front = c.digits_of_block.result.0 in
    let back = c.digits_of_block.result.1 in
    let from = 2 * c.args.at in
    take_more_put_chunk (from + 16) (put_chunk from old front) back (2 * (c.args.at + 16)) (omega (arith, c.digits_of_block.ensures.second)) (omega (arith, length-put_chunk from old front))
    ∙ ap (λ text. text ++ back) (take_more_put_chunk from old front (from + 16) (omega (arith, c.digits_of_block.ensures.first)) (omega arith))
    ∙ append_assoc (take from old) front back
    ∙ ap (λ text. take from old ++ text) c.digits_of_block.ensures.digits
