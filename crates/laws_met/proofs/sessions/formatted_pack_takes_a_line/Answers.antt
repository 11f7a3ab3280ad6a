use Rattle.laws_met.proofs.inside.First.{formatted_pack_takes_a_line}
use Rattle.laws_met.proofs.sessions.formatted_pack_takes_a_line.Goals as goal

pub returns : goal.returns
returns c = formatted_pack_takes_a_line
