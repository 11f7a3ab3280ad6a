use Rattle.laws_steps.proofs.inside.Dropping.{releases_leave_the_entry}
use Rattle.laws_steps.proofs.dropping.releases_leave_the_entry.Goals as goal

pub returns : goal.returns
returns c = releases_leave_the_entry
