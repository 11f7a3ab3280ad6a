use Rattle.std.proofs.Common.{None, Some, ◌∙◌, arith}
use Rattle.pack_reading.proofs.Counting.{counting_none, counting_missing, counting_last, counting_more, counting_all, count_here}
use Rattle.pack_reading.proofs.counts.Counts.length.Goals as goal

pub loop-number-init : goal.loop-number-init
loop-number-init c = record { counted = λ pages counts. counting_none pages; most = omega arith }

pub returns-in_default : goal.returns-in_default
returns-in_default c = λ pages counts.
    counting_missing pages c.loop-number.number c.loop-number.length (c.loop-number.invariant.counted pages counts) c.loop-number-test.true
    (count_here c.args.self.now c.args.fid c.loop-number.number None c.in_default.ensures.value ∙ counts c.loop-number.number)

pub returns-then-bytes-lt-PAGE_BYTES : goal.returns-then-bytes-lt-PAGE_BYTES
returns-then-bytes-lt-PAGE_BYTES c = λ pages counts.
    counting_last pages c.loop-number.number c.loop-number.length (c.loop-number.invariant.counted pages counts) c.in-Some.bytes.now c.loop-number-test.true
    (count_here c.args.self.now c.args.fid c.loop-number.number (Some c.in-Some.bytes.now) c.in-Some.ensures.value ∙ counts c.loop-number.number) c.if-bytes-lt-PAGE_BYTES.true

pub loop-number-preserved : goal.loop-number-preserved
loop-number-preserved c = record {
  counted = λ pages counts.
      counting_more pages c.loop-number.number c.loop-number.length (c.loop-number.invariant.counted pages counts) c.in-Some.bytes.now c.loop-number-test.true
      (count_here c.args.self.now c.args.fid c.loop-number.number (Some c.in-Some.bytes.now) c.in-Some.ensures.value ∙ counts c.loop-number.number) c.if-bytes-lt-PAGE_BYTES.false;
  most = omega arith;
}

pub returns : goal.returns
returns c = λ pages counts. counting_all pages c.loop-number.number c.loop-number.length (c.loop-number.invariant.counted pages counts) c.loop-number-test.false
