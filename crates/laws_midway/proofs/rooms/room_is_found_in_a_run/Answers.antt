use Rattle.laws_midway.proofs.inside.FreeRuns.{room_is_found_in_a_run}
use Rattle.laws_midway.proofs.rooms.room_is_found_in_a_run.Goals as goal

pub returns : goal.returns
returns c = room_is_found_in_a_run
