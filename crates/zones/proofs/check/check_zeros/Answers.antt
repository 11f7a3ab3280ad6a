use Rattle.std.proofs.Common.{◌≡◌, ◌+◌, ◌∙◌, ap, arith, sym}
use Rattle.std.proofs.Math.ListN.{drop_of_length-le}
use Rattle.laws_zone.specs.world_model.specs.ZoneWords.{first_set}
use Rattle.zones.specs.Check.{checked}
use Rattle.zones.proofs.Checking.{zero_passed}
use Rattle.zones.proofs.check.check_zeros.Goals as goal

pub loop-i-init : goal.loop-i-init
loop-i-init c = let e : c.args.from ≡ c.args.from + 0 = omega arith in ap (λ k. first_set k c.args.words.now) e

pub loop-i-preserved : goal.loop-i-preserved
loop-i-preserved c = c.loop-i.invariant ∙ zero_passed c.args.from c.loop-i.i c.args.words.now c.loop-i-test.true c.if-word-ne0.false

pub returns : goal.returns
returns c = ap checked (sym (c.loop-i.invariant ∙ ap (first_set (c.args.from + c.loop-i.i)) (drop_of_length-le c.args.words.now c.loop-i-test.false)))
