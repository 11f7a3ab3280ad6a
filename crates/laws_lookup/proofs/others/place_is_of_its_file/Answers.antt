use Rattle.laws_lookup.proofs.inside.LeftAlone.{place_is_of_its_file}
use Rattle.laws_lookup.proofs.others.place_is_of_its_file.Goals as goal

pub returns : goal.returns
returns c = place_is_of_its_file
