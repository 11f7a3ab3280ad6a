use Rattle.laws_room.proofs.inside.Kept.{fresh_leader_of_the_main_directory_keeps}
use Rattle.laws_room.proofs.keeping.fresh_leader_of_the_main_directory_keeps.Goals as goal

pub returns : goal.returns
returns c = fresh_leader_of_the_main_directory_keeps
