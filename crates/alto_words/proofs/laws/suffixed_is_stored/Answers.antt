use Rattle.alto_words.proofs.Made.{is_stored_name-suffixed}
use Rattle.alto_words.proofs.laws.suffixed_is_stored.Goals as goal

pub returns : goal.returns
returns c = is_stored_name-suffixed
