use Rattle.laws_record.proofs.SystemWrites.{first_leader_of_the_main_directory}
use Rattle.laws_record.proofs.views.first_leader_of_the_main_directory.Goals as goal

pub returns : goal.returns
returns c = first_leader_of_the_main_directory
