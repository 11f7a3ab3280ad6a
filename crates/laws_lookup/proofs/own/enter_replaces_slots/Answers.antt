use Rattle.laws_lookup.proofs.inside.Replacings.{enter_replaces_slots}
use Rattle.laws_lookup.proofs.own.enter_replaces_slots.Goals as goal

pub returns : goal.returns
returns c = enter_replaces_slots
