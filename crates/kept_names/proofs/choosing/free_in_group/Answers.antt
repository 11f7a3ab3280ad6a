use Rattle.std.proofs.Common.{sym, subst}
use Rattle.kept_names.specs.Passed.{AreTaken}
use Rattle.kept_names.proofs.Passing.{taken_by_count}
use Rattle.kept_names.proofs.choosing.free_in_group.Goals as goal

pub returns-clause-passed : goal.returns-clause-passed
returns-clause-passed c = λ homes stands is.
    c.in_ok-keep.ensures.passed homes is (
    taken_by_count homes c.args.name c.args.group.first c.unwrap_or.result
    (subst (AreTaken homes c.args.name c.args.group.first) (sym c.unwrap_or.ensures) (c.next_in_group-free.ensures.free homes stands is).taken)
    )
