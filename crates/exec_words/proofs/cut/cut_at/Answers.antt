use Rattle.exec_words.proofs.Cutting.{before_found, after_found, before_unfound, after_unfound}
use Rattle.exec_words.proofs.cut.cut_at.Goals as goal

pub returns-in-Some-clause-before : goal.returns-in-Some-clause-before
returns-in-Some-clause-before c = before_found c.args.byte c.args.text.now c.in-Some.at c.in-Some.ensures

pub returns-in-Some-clause-after : goal.returns-in-Some-clause-after
returns-in-Some-clause-after c = after_found c.args.byte c.args.text.now c.in-Some.at c.in-Some.ensures

pub returns-in-None-clause-before : goal.returns-in-None-clause-before
returns-in-None-clause-before c = before_unfound c.args.byte c.args.text.now c.in-None.ensures

pub returns-in-None-clause-after : goal.returns-in-None-clause-after
returns-in-None-clause-after c = after_unfound c.args.byte c.args.text.now c.in-None.ensures
