use Rattle.laws_contents.proofs.words.Laws.{page_words_are_a_slice}
use Rattle.laws_contents.proofs.words.page_words_are_a_slice.Goals as goal

pub returns : goal.returns
returns c = page_words_are_a_slice
