use Rattle.std.proofs.Common.{◌++◌, take}
use Rattle.directory.proofs.Paging.{visits_passed}
use Rattle.directory.proofs.walk.pass_for.Goals as goal

pub returns-in-Some-clause-visits : goal.returns-in-Some-clause-visits
returns-in-Some-clause-visits g c = λ given walked.
    visits_passed g.V.Visit.step c.in-Some.passing (given ++ take c.args.from.now c.args.words.now) (given ++ take c.pass_others.new.from c.args.words.now) c.pass_others.new.walk c.args.visitor.now c.in-Some.ensures (c.pass_others.ensures.passes given walked)
