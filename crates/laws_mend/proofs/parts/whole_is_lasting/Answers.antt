use Rattle.laws_mend.proofs.inside.WholePacks.{whole_is_lasting}
use Rattle.laws_mend.proofs.parts.whole_is_lasting.Goals as goal

pub returns : goal.returns
returns c = whole_is_lasting
