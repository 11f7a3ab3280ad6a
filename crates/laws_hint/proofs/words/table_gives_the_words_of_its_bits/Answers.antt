use Rattle.laws_hint.proofs.inside.Wording.{table_gives_the_words_of_its_bits}
use Rattle.laws_hint.proofs.words.table_gives_the_words_of_its_bits.Goals as goal

pub returns : goal.returns
returns c = table_gives_the_words_of_its_bits
