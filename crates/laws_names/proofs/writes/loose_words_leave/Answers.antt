use Rattle.laws_names.proofs.inside.Freed.{loose_words_leave}
use Rattle.laws_names.proofs.writes.loose_words_leave.Goals as goal

pub returns : goal.returns
returns c = loose_words_leave
