use Rattle.laws_line.proofs.inside.crashes.OneCommit.{line_moves_lead_to_the_model}
use Rattle.laws_line.proofs.parts.line_moves_lead_to_the_model.Goals as goal

pub returns : goal.returns
returns c = line_moves_lead_to_the_model
