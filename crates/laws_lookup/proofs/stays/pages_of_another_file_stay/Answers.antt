use Rattle.laws_lookup.proofs.inside.Staying.{pages_of_another_file_stay}
use Rattle.laws_lookup.proofs.stays.pages_of_another_file_stay.Goals as goal

pub returns : goal.returns
returns c = pages_of_another_file_stay
