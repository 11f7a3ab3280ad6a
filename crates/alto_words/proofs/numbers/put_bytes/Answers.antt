use Rattle.std.proofs.Common.{◌*◌, ◌+◌, arith}
use Rattle.alto_words.proofs.HexLanes.{hex_pairs-pair}
use Rattle.alto_words.proofs.numbers.put_bytes.Goals as goal

pub loop-at-preserved : goal.loop-at-preserved
loop-at-preserved c =
    let at = c.loop-at.at in
    hex_pairs-pair c.args.text.now c.loop-at.bytes at c.digit_value-high.result c.digit_value-low.result c.loop-at.all (omega arith) (omega arith)
    (omega (arith, c.type_inv.text (2 * at))) (omega (arith, c.type_inv.text (2 * at + 1)))
    c.digit_value-high.ensures c.digit_value-low.ensures c.loop-at.invariant
