use Rattle.laws_operation.proofs.inside.looks.Apart.{free_name_is_apart_for_a_nameless_file}
use Rattle.laws_operation.proofs.enter.free_name_is_apart_for_a_nameless_file.Goals as goal

pub returns : goal.returns
returns c = free_name_is_apart_for_a_nameless_file
