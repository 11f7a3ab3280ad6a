use Rattle.laws_zone.proofs.inside.Wording.{block_words_are_stored}
use Rattle.laws_zone.proofs.words.block_words_are_stored.Goals as goal

pub returns : goal.returns
returns c = block_words_are_stored
