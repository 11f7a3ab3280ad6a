use Rattle.laws_names.proofs.inside.WrittenWords.{written_words_stand}
use Rattle.laws_names.proofs.writes.written_words_stand.Goals as goal

pub returns : goal.returns
returns c = written_words_stand
