use Rattle.laws_contents.proofs.pages.Laws.{page_numbers_are_words}
use Rattle.laws_contents.proofs.pages.page_numbers_are_words.Goals as goal

pub returns : goal.returns
returns c = page_numbers_are_words
