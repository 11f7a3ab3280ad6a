use Rattle.laws_hint.proofs.inside.Meaning.{true_table_is_free_table}
use Rattle.laws_hint.proofs.meanings.true_table_is_free_table.Goals as goal

pub returns : goal.returns
returns c = true_table_is_free_table
