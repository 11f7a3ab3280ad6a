use Rattle.laws_hint.proofs.inside.Wording.{words_give_the_map_back}
use Rattle.laws_hint.proofs.words.words_give_the_map_back.Goals as goal

pub returns : goal.returns
returns c = words_give_the_map_back
