use Rattle.laws_hint.proofs.inside.ClosedHints.{closing_leaves_a_clean_pack}
use Rattle.laws_hint.proofs.closing.closing_leaves_a_clean_pack.Goals as goal

pub returns : goal.returns
returns c = closing_leaves_a_clean_pack
