use Rattle.alto_words.proofs.Made.{is_stored_name-lost}
use Rattle.alto_words.proofs.laws.lost_is_stored.Goals as goal

pub returns : goal.returns
returns c = is_stored_name-lost
