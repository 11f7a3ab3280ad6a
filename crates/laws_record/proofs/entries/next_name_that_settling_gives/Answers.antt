use Rattle.laws_record.proofs.inside.NextName.{next_name_that_settling_gives}
use Rattle.laws_record.proofs.entries.next_name_that_settling_gives.Goals as goal

pub returns : goal.returns
returns c = next_name_that_settling_gives
