use Rattle.laws_lookup.proofs.inside.Bare.{bare_file_may_be_dropped}
use Rattle.laws_lookup.proofs.dropping.bare_file_may_be_dropped.Goals as goal

pub returns : goal.returns
returns c = bare_file_may_be_dropped
