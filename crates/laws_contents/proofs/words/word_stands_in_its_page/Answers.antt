use Rattle.laws_contents.proofs.words.Laws.{word_stands_in_its_page}
use Rattle.laws_contents.proofs.words.word_stands_in_its_page.Goals as goal

pub returns : goal.returns
returns c = word_stands_in_its_page
