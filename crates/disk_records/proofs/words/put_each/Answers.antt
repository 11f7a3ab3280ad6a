use Rattle.std.proofs.Common.{◌≤◌, ◌+◌, ◌*◌, length, arith}
use Rattle.disk_records.proofs.InPlace.{next_high, next_low, put_whole}
use Rattle.disk_records.proofs.words.put_each.Goals as goal
use Rattle.disk_records.proofs.words.put_each.Goals.{then-place-eq0, else-place-eq0}

pub loop-i-preserved : goal.loop-i-preserved
loop-i-preserved c =
    let long = c.told-value in
    let fits : c.args.offset + length c.args.bytes.now ≤ 2 * length c.args.value.now = omega arith in
    elim c.if-place-eq0.branch [
      | then-place-eq0 w ↦
          next_high c.args.offset c.loop-i.i c.args.bytes.now c.loop-i.value c.args.value.now c.loop-i.invariant c.loop-i-test.true fits c.if-place-eq0.value w.if-place-eq0.true w.value-is
      | else-place-eq0 w ↦
          next_low c.args.offset c.loop-i.i c.args.bytes.now c.loop-i.value c.args.value.now c.loop-i.invariant c.loop-i-test.true fits c.if-place-eq0.value w.if-place-eq0.false
          (omega (arith, c.type_inv.bytes c.loop-i.i)) w.value-is
    ]

pub returns : goal.returns
returns c = put_whole c.args.offset c.loop-i.i c.args.bytes.now c.loop-i.value c.args.value.now c.loop-i.invariant c.loop-i-test.false
