use Rattle.laws_format.proofs.inside.Writes.{sectors_come_in_place}
use Rattle.laws_format.proofs.formatted.sectors_come_in_place.Goals as goal

pub returns : goal.returns
returns c = sectors_come_in_place
