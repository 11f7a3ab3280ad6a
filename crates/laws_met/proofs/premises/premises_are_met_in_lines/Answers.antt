use Rattle.laws_met.proofs.inside.Meets.{premises_are_met_in_lines}
use Rattle.laws_met.proofs.premises.premises_are_met_in_lines.Goals as goal

pub returns : goal.returns
returns c = premises_are_met_in_lines
