use Rattle.laws_operation.proofs.inside.looks.Nameless.{free_name_is_apart_after_make}
use Rattle.laws_operation.proofs.make.free_name_is_apart_after_make.Goals as goal

pub returns : goal.returns
returns c = free_name_is_apart_after_make
