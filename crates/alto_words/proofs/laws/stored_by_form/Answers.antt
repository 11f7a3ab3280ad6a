use Rattle.alto_words.proofs.Forms.{stored_by_form}
use Rattle.alto_words.proofs.laws.stored_by_form.Goals as goal

pub returns : goal.returns
returns c = stored_by_form
