use Rattle.laws_lookup.proofs.inside.Wanting.{entry_at_is_the_entry_wanted}
use Rattle.laws_lookup.proofs.slots.entry_at_is_the_entry_wanted.Goals as goal

pub returns : goal.returns
returns c = entry_at_is_the_entry_wanted
