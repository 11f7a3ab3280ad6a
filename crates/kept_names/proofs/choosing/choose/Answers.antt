use Rattle.std.proofs.Common.{sym, ◌∙◌}
use Rattle.kept_names.proofs.Passing.{free_itself}
use Rattle.kept_names.proofs.choosing.choose.Goals as goal

pub returns-then-not-is_taken-clause-chosen : goal.returns-then-not-is_taken-clause-chosen
returns-then-not-is_taken-clause-chosen c = λ homes stands is. free_itself homes c.args.name (sym (c.is_taken.ensures homes stands) ∙ c.if-not-is_taken.true)
