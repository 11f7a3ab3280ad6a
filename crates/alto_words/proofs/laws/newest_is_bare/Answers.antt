use Rattle.alto_words.proofs.Forms.{newest_bare}
use Rattle.alto_words.proofs.laws.newest_is_bare.Goals as goal

pub returns : goal.returns
returns c = newest_bare
