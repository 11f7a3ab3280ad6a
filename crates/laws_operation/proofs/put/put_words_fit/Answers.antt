use Rattle.laws_operation.proofs.inside.words.FileLaws.{put_words_fit}
use Rattle.laws_operation.proofs.put.put_words_fit.Goals as goal

pub returns : goal.returns
returns c = put_words_fit
