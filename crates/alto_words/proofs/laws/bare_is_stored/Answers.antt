use Rattle.alto_words.proofs.Forms.{bare_stored}
use Rattle.alto_words.proofs.laws.bare_is_stored.Goals as goal

pub returns : goal.returns
returns c = bare_stored
