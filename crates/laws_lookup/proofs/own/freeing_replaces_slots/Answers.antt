use Rattle.laws_lookup.proofs.inside.Replacings.{freeing_replaces_slots}
use Rattle.laws_lookup.proofs.own.freeing_replaces_slots.Goals as goal

pub returns : goal.returns
returns c = freeing_replaces_slots
