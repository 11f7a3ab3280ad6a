use Rattle.laws_hint.proofs.inside.Meaning.{only_free_table_is_complete_and_true}
use Rattle.laws_hint.proofs.meanings.only_free_table_is_complete_and_true.Goals as goal

pub returns : goal.returns
returns c = only_free_table_is_complete_and_true
