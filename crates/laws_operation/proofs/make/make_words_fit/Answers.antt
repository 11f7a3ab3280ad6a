use Rattle.laws_operation.proofs.inside.words.FileLaws.{make_words_fit}
use Rattle.laws_operation.proofs.make.make_words_fit.Goals as goal

pub returns : goal.returns
returns c = make_words_fit
