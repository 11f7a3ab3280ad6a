use Rattle.alto_words.proofs.Reading.{number_in-decimal}
use Rattle.alto_words.proofs.laws.number_reads_back.Goals as goal

pub returns : goal.returns
returns c = number_in-decimal
