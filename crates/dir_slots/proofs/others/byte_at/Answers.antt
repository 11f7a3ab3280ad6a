use Rattle.std.proofs.Common.{arith}
use Rattle.dir_slots.proofs.PassedOver.{byte_high, byte_low}
use Rattle.dir_slots.proofs.others.byte_at.Goals as goal

pub returns-then-at-eq0 : goal.returns-then-at-eq0
returns-then-at-eq0 c = byte_high c.args.words.now c.args.at (omega (arith, c.requires)) c.if-at-eq0.true

pub returns : goal.returns
returns c = byte_low c.args.words.now c.args.at (omega (arith, c.requires)) c.if-at-eq0.false
