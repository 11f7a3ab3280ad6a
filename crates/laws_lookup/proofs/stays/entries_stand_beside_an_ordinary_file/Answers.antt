use Rattle.laws_lookup.proofs.inside.Staying.{entries_stand_beside_an_ordinary_file}
use Rattle.laws_lookup.proofs.stays.entries_stand_beside_an_ordinary_file.Goals as goal

pub returns : goal.returns
returns c = entries_stand_beside_an_ordinary_file
