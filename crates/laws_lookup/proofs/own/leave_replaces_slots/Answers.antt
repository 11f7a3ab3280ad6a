use Rattle.laws_lookup.proofs.inside.Replacings.{leave_replaces_slots}
use Rattle.laws_lookup.proofs.own.leave_replaces_slots.Goals as goal

pub returns : goal.returns
returns c = leave_replaces_slots
