use Rattle.laws_session.proofs.inside.Standing.{failed_turns_keep}
use Rattle.laws_session.proofs.ends.failed_turns_keep.Goals as goal

pub returns : goal.returns
returns c = failed_turns_keep
