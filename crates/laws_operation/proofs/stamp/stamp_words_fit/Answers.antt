use Rattle.laws_operation.proofs.inside.words.FileLaws.{stamp_words_fit}
use Rattle.laws_operation.proofs.stamp.stamp_words_fit.Goals as goal

pub returns : goal.returns
returns c = stamp_words_fit
