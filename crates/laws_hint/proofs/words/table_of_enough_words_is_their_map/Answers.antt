use Rattle.laws_hint.proofs.inside.Wording.{table_of_enough_words_is_their_map}
use Rattle.laws_hint.proofs.words.table_of_enough_words_is_their_map.Goals as goal

pub returns : goal.returns
returns c = table_of_enough_words_is_their_map
