use Rattle.laws_operation.proofs.inside.words.FileLaws.{title_words_fit}
use Rattle.laws_operation.proofs.title.title_words_fit.Goals as goal

pub returns : goal.returns
returns c = title_words_fit
