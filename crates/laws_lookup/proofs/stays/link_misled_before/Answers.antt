use Rattle.laws_lookup.proofs.inside.Staying.{link_misled_before}
use Rattle.laws_lookup.proofs.stays.link_misled_before.Goals as goal

pub returns : goal.returns
returns c = link_misled_before
