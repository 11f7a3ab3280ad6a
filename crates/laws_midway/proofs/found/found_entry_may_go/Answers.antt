use Rattle.laws_midway.proofs.inside.Founding.{found_entry_may_go}
use Rattle.laws_midway.proofs.found.found_entry_may_go.Goals as goal

pub returns : goal.returns
returns c = found_entry_may_go
