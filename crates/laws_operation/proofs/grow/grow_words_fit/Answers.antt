use Rattle.laws_operation.proofs.inside.words.GrownPages.{grow_words_fit}
use Rattle.laws_operation.proofs.grow.grow_words_fit.Goals as goal

pub returns : goal.returns
returns c = grow_words_fit
