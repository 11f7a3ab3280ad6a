use Rattle.laws_lookup.proofs.inside.Bare.{ordinary_file_is_bare}
use Rattle.laws_lookup.proofs.dropping.ordinary_file_is_bare.Goals as goal

pub returns : goal.returns
returns c = ordinary_file_is_bare
