use Rattle.std.proofs.Common.{sym, ◌∙◌}
use Rattle.kept_names.proofs.Choices.{taken_is}
use Rattle.kept_names.proofs.choosing.is_taken.Goals as goal

pub returns-else-is_system_name : goal.returns-else-is_system_name
returns-else-is_system_name c = λ homes stands. c.is_taken.ensures ∙ taken_is c.args.names.now c.args.name (sym c.is_system_name.ensures ∙ c.if-is_system_name.false) homes stands
