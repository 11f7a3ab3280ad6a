use Rattle.laws_operation.proofs.inside.words.RoomFound.{enter_words_fit}
use Rattle.laws_operation.proofs.enter.enter_words_fit.Goals as goal

pub returns : goal.returns
returns c = enter_words_fit
