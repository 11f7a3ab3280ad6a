use Rattle.laws_operation.proofs.inside.words.FileLaws.{cut_words_fit}
use Rattle.laws_operation.proofs.cut.cut_words_fit.Goals as goal

pub returns : goal.returns
returns c = cut_words_fit
