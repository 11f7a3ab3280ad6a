use Rattle.laws_mend.proofs.inside.Describing.{descriptor_leader_makes_lasting}
use Rattle.laws_mend.proofs.parts.descriptor_leader_makes_lasting.Goals as goal

pub returns : goal.returns
returns c = descriptor_leader_makes_lasting
