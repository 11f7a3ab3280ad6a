use Rattle.std.proofs.Common.{◌++◌, ap, ◌∙◌, arith}
use Rattle.std.specs.Simd.Lanes.{chunk}
use Rattle.alto_words.specs.Numbers.{hex_of}
use Rattle.alto_words.proofs.HexLanes.{hex_of-chunk}
use Rattle.alto_words.proofs.numbers.put_blocks.Goals as goal

pub loop-at-preserved : goal.loop-at-preserved
loop-at-preserved c =
    let bytes = c.args.bytes.now in
    let at = c.loop-at.at in
    record {
      within = omega arith;
      digits = c.put_block.ensures.digits ∙ ap (λ text. text ++ hex_of (chunk at 16 bytes)) c.loop-at.invariant.digits ∙ hex_of-chunk bytes at 16;
    }
