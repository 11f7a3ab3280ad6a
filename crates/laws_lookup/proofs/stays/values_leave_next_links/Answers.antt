use Rattle.laws_lookup.proofs.inside.Staying.{values_leave_next_links}
use Rattle.laws_lookup.proofs.stays.values_leave_next_links.Goals as goal

pub returns : goal.returns
returns c = values_leave_next_links
