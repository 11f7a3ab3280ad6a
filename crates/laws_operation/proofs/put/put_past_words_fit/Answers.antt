use Rattle.laws_operation.proofs.put.Laws.{put_past_words_fit}
use Rattle.laws_operation.proofs.put.put_past_words_fit.Goals as goal

pub returns : goal.returns
returns c = put_past_words_fit
