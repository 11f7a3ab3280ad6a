use Rattle.laws_record.proofs.inside.AsBefore.{descriptor_leader_views_same}
use Rattle.laws_record.proofs.views.descriptor_leader_views_same.Goals as goal

pub returns : goal.returns
returns c = descriptor_leader_views_same
