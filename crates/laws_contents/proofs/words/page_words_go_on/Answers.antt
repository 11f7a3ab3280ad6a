use Rattle.laws_contents.proofs.words.Laws.{page_words_go_on}
use Rattle.laws_contents.proofs.words.page_words_go_on.Goals as goal

pub returns : goal.returns
returns c = page_words_go_on
