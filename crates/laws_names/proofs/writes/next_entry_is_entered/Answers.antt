use Rattle.laws_names.proofs.inside.NextEntered.{next_entry_is_entered}
use Rattle.laws_names.proofs.writes.next_entry_is_entered.Goals as goal

pub returns : goal.returns
returns c = next_entry_is_entered
