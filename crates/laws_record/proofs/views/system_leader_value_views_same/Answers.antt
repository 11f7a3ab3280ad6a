use Rattle.laws_record.proofs.inside.AsBefore.{system_leader_value_views_same}
use Rattle.laws_record.proofs.views.system_leader_value_views_same.Goals as goal

pub returns : goal.returns
returns c = system_leader_value_views_same
