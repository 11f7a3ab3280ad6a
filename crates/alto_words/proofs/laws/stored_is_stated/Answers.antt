use Rattle.alto_words.proofs.Forms.{name_in-stated}
use Rattle.alto_words.proofs.laws.stored_is_stated.Goals as goal

pub returns : goal.returns
returns c = name_in-stated
