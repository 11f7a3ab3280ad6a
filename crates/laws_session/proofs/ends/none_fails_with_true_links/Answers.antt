use Rattle.laws_session.proofs.inside.Needing.{none_fails_with_true_links}
use Rattle.laws_session.proofs.ends.none_fails_with_true_links.Goals as goal

pub returns : goal.returns
returns c = none_fails_with_true_links
