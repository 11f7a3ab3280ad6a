use Rattle.laws_hint.proofs.inside.Wording.{table_is_written}
use Rattle.laws_hint.proofs.words.table_is_written.Goals as goal

pub returns : goal.returns
returns c = table_is_written
