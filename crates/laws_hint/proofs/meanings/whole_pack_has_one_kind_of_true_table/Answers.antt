use Rattle.laws_hint.proofs.inside.Meaning.{whole_pack_has_one_kind_of_true_table}
use Rattle.laws_hint.proofs.meanings.whole_pack_has_one_kind_of_true_table.Goals as goal

pub returns : goal.returns
returns c = whole_pack_has_one_kind_of_true_table
