use Rattle.laws_record.proofs.inside.AsBefore.{unused_release_views_same}
use Rattle.laws_record.proofs.views.unused_release_views_same.Goals as goal

pub returns : goal.returns
returns c = unused_release_views_same
