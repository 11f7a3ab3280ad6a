use Rattle.laws_hint.proofs.inside.Wording.{table_read_is_described}
use Rattle.laws_hint.proofs.words.table_read_is_described.Goals as goal

pub returns : goal.returns
returns c = table_read_is_described
