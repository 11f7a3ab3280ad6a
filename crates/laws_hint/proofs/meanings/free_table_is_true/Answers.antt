use Rattle.laws_hint.proofs.inside.Meaning.{free_table_is_true}
use Rattle.laws_hint.proofs.meanings.free_table_is_true.Goals as goal

pub returns : goal.returns
returns c = free_table_is_true
