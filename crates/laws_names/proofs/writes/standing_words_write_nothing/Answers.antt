use Rattle.laws_names.proofs.inside.WrittenWords.{standing_words_write_nothing}
use Rattle.laws_names.proofs.writes.standing_words_write_nothing.Goals as goal

pub returns : goal.returns
returns c = standing_words_write_nothing
