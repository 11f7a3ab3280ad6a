use Rattle.laws_operation.proofs.inside.words.DirectoryLaws.{widen_words_fit}
use Rattle.laws_operation.proofs.widen.widen_words_fit.Goals as goal

pub returns : goal.returns
returns c = widen_words_fit
