use Rattle.laws_lookup.proofs.inside.Fitting.{apart_entry_may_be_entered}
use Rattle.laws_lookup.proofs.entering.apart_entry_may_be_entered.Goals as goal

pub returns : goal.returns
returns c = apart_entry_may_be_entered
