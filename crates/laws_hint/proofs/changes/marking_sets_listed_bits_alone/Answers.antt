use Rattle.laws_hint.proofs.inside.Marking.{marking_sets_listed_bits_alone}
use Rattle.laws_hint.proofs.changes.marking_sets_listed_bits_alone.Goals as goal

pub returns : goal.returns
returns c = marking_sets_listed_bits_alone
