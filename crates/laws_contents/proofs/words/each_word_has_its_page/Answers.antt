use Rattle.laws_contents.proofs.words.Laws.{each_word_has_its_page}
use Rattle.laws_contents.proofs.words.each_word_has_its_page.Goals as goal

pub returns : goal.returns
returns c = each_word_has_its_page
