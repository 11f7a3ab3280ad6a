use Rattle.laws_midway.proofs.inside.FreeRuns.{row_is_short}
use Rattle.laws_midway.proofs.rooms.row_is_short.Goals as goal

pub returns : goal.returns
returns c = row_is_short
