use Rattle.laws_mend.proofs.inside.WideningPlain.{widening_in_words}
use Rattle.laws_mend.proofs.widening.widening_in_words.Goals as goal

pub returns : goal.returns
returns c = widening_in_words
