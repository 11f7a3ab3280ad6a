use Rattle.leader_page.proofs.Changes.{title}
use Rattle.leader_page.proofs.laws.title_changes_the_name.Goals as goal

pub returns : goal.returns
returns c = title
