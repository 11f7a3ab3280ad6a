use Rattle.laws_mend.proofs.inside.Describing.{described_is_lasting}
use Rattle.laws_mend.proofs.parts.described_is_lasting.Goals as goal

pub returns : goal.returns
returns c = described_is_lasting
