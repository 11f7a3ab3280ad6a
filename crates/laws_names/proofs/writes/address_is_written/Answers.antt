use Rattle.laws_names.proofs.inside.Addressed.{address_is_written}
use Rattle.laws_names.proofs.writes.address_is_written.Goals as goal

pub returns : goal.returns
returns c = address_is_written
