use Rattle.alto_words.proofs.Made.{length-suffixed}
use Rattle.alto_words.proofs.laws.length_suffixed.Goals as goal

pub returns : goal.returns
returns c = length-suffixed
