use Rattle.laws_contents.proofs.words.Laws.{words_stand_in_their_page}
use Rattle.laws_contents.proofs.words.words_stand_in_their_page.Goals as goal

pub returns : goal.returns
returns c = words_stand_in_their_page
