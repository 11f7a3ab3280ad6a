use Rattle.laws_operation.proofs.inside.words.DirectoryLaws.{leave_words_fit}
use Rattle.laws_operation.proofs.leave.leave_words_fit.Goals as goal

pub returns : goal.returns
returns c = leave_words_fit
