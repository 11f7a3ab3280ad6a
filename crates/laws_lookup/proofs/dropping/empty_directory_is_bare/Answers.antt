use Rattle.laws_lookup.proofs.inside.Bare.{empty_directory_is_bare}
use Rattle.laws_lookup.proofs.dropping.empty_directory_is_bare.Goals as goal

pub returns : goal.returns
returns c = empty_directory_is_bare
