use Rattle.laws_midway.proofs.inside.MostWords.{most_words_go_on}
use Rattle.laws_midway.proofs.rooms.most_words_go_on.Goals as goal

pub returns : goal.returns
returns c = most_words_go_on
