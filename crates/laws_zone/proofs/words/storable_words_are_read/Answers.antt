use Rattle.laws_zone.proofs.inside.Wording.{storable_words_are_read}
use Rattle.laws_zone.proofs.words.storable_words_are_read.Goals as goal

pub returns : goal.returns
returns c = storable_words_are_read
