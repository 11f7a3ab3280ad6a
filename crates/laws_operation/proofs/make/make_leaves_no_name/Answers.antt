use Rattle.laws_operation.proofs.inside.looks.Nameless.{make_leaves_no_name}
use Rattle.laws_operation.proofs.make.make_leaves_no_name.Goals as goal

pub returns : goal.returns
returns c = make_leaves_no_name
