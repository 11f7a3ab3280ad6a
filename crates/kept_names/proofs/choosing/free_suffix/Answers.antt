use Rattle.std.proofs.Common.{refl, arith}
use Rattle.kept_names.proofs.Grouping.{after_more, chosen_here, behind_all}
use Rattle.kept_names.proofs.Passing.{free_last}
use Rattle.kept_names.proofs.choosing.free_suffix.Goals as goal

pub loop-group-init : goal.loop-group-init
loop-group-init c = record {
  passed = λ homes stands is. is;
  behind = λ homes stands is. record { order = refl; taken = λ k from less. absurd (omega (arith, from, less)) };
}

pub loop-group-preserved : goal.loop-group-preserved
loop-group-preserved c = record {
  passed = λ homes stands is. c.in_ok-k.ensures.passed homes stands (c.loop-group.invariant.passed homes stands is);
  behind = λ homes stands is.
      after_more (c.loop-group.invariant.behind homes stands is) c.group-item.result c.loop-group-test.true c.in_default.is (c.in_ok-k.ensures.free homes stands (c.loop-group.invariant.passed homes stands is));
}

pub returns-in-Some-clause-chosen : goal.returns-in-Some-clause-chosen
returns-in-Some-clause-chosen c = λ homes stands is itself.
    chosen_here (c.loop-group.invariant.behind homes stands is) c.group-item.result c.in-Some.k c.loop-group-test.true c.in-Some.is c.in_ok-k.ensures.within
    (c.in_ok-k.ensures.free homes stands (c.loop-group.invariant.passed homes stands is)) itself

pub returns-in-Some-clause-passed : goal.returns-in-Some-clause-passed
returns-in-Some-clause-passed c = λ homes stands is. c.in_ok-k.ensures.passed homes stands (c.loop-group.invariant.passed homes stands is)

pub returns-clause-chosen : goal.returns-clause-chosen
returns-clause-chosen c = λ homes stands is itself. free_last homes c.args.name itself (behind_all (c.loop-group.invariant.behind homes stands is) c.loop-group-test.false c.loop-group.auto.group-index-end)
