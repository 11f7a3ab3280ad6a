use Rattle.alto_words.proofs.Folding.{folded_cmp-equal}
use Rattle.alto_words.proofs.laws.order_agrees_with_same.Goals as goal

pub returns : goal.returns
returns c = folded_cmp-equal
