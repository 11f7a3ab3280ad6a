use Rattle.laws_operation.proofs.inside.words.DirectoryLaws.{slot_words_fit}
use Rattle.laws_operation.proofs.drop.slot_words_fit.Goals as goal

pub returns : goal.returns
returns c = slot_words_fit
