use Rattle.laws_operation.proofs.inside.words.EntryBytes.{entry_words_fit}
use Rattle.laws_operation.proofs.enter.entry_words_fit.Goals as goal

pub returns : goal.returns
returns c = entry_words_fit
