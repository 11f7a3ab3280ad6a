use Rattle.laws_lookup.proofs.inside.Replacings.{widen_replaces_slots}
use Rattle.laws_lookup.proofs.own.widen_replaces_slots.Goals as goal

pub returns : goal.returns
returns c = widen_replaces_slots
