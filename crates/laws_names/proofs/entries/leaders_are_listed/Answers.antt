use Rattle.laws_names.proofs.inside.Ending.{leaders_are_listed}
use Rattle.laws_names.proofs.entries.leaders_are_listed.Goals as goal

pub returns : goal.returns
returns c = leaders_are_listed
