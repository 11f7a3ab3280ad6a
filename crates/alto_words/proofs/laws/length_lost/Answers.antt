use Rattle.alto_words.proofs.Made.{length-lost}
use Rattle.alto_words.proofs.laws.length_lost.Goals as goal

pub returns : goal.returns
returns c = length-lost
