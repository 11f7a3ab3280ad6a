use Rattle.laws_zone.proofs.inside.Wording.{user_words_are_stored}
use Rattle.laws_zone.proofs.words.user_words_are_stored.Goals as goal

pub returns : goal.returns
returns c = user_words_are_stored
