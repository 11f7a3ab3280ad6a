use Rattle.laws_call.proofs.inside.Counting.{releases_are_counted}
use Rattle.laws_call.proofs.counts.releases_are_counted.Goals as goal

pub returns : goal.returns
returns g c = releases_are_counted _ _
