use Rattle.std.proofs.Common.{arith}
use Rattle.zones.proofs.Parts.{all_taken, part_taken}
use Rattle.zones.proofs.gaps.take_gap.Goals as goal

pub returns-then-left-gt0 : goal.returns-then-left-gt0
returns-then-left-gt0 c = part_taken c.args.memory.now c.args.at c.args.size c.from.result c.requires.gap c.from.ensures (let more = c.if-left-gt0.true in omega (arith, more))

pub returns-else-left-gt0 : goal.returns-else-left-gt0
returns-else-left-gt0 c = all_taken c.args.memory.now c.args.at c.args.size c.requires.gap (let none = c.if-left-gt0.false in omega (arith, none))
