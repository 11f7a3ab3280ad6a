use Rattle.alto_words.proofs.Folding.{folded_cmp-total}
use Rattle.alto_words.proofs.laws.order_is_total.Goals as goal

pub returns : goal.returns
returns c = folded_cmp-total
