use Rattle.laws_lookup.proofs.inside.Staying.{slots_of_another_directory_stay}
use Rattle.laws_lookup.proofs.stays.slots_of_another_directory_stay.Goals as goal

pub returns : goal.returns
returns c = slots_of_another_directory_stay
