use Rattle.laws_lookup.proofs.inside.Staying.{entries_of_another_directory_stand}
use Rattle.laws_lookup.proofs.stays.entries_of_another_directory_stand.Goals as goal

pub returns : goal.returns
returns c = entries_of_another_directory_stand
