use Rattle.leader_page.proofs.Changes.{stamp}
use Rattle.leader_page.proofs.laws.stamp_changes_the_written_date.Goals as goal

pub returns : goal.returns
returns c = stamp
