use Rattle.alto_words.proofs.Forms.{stored_is_made}
use Rattle.alto_words.proofs.laws.stored_is_made.Goals as goal

pub returns : goal.returns
returns c = stored_is_made
