use Rattle.std.proofs.Common.{sym, ◌∙◌}
use Rattle.kept_names.proofs.Passing.{passed_adopted}
use Rattle.kept_names.proofs.adopting.adopt.Goals as goal

pub returns-then-has-clause-passed : goal.returns-then-has-clause-passed
returns-then-has-clause-passed c = λ homes x named stands is. passed_adopted homes c.args.passed.now (c.args.fid, x) is

pub returns-clause-passed : goal.returns-clause-passed
returns-clause-passed c = λ homes x named stands is. passed_adopted homes c.choose.new.passed (c.args.fid, x) (c.in_ok-name.ensures.passed homes stands is)

pub returns-clause-given : goal.returns-clause-given
returns-clause-given c = λ homes stands is. (sym (stands.named c.args.fid) ∙ sym c.has.ensures ∙ c.if-has.false, c.in_ok-name.ensures.chosen homes stands is)
