use Rattle.laws_line.proofs.inside.crashes.Beginning.{moves_of_a_line_split}
use Rattle.laws_line.proofs.parts.moves_of_a_line_split.Goals as goal

pub returns : goal.returns
returns c = moves_of_a_line_split
