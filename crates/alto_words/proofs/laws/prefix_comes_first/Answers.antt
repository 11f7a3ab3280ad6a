use Rattle.alto_words.proofs.Folding.{folded_cmp-prefix}
use Rattle.alto_words.proofs.laws.prefix_comes_first.Goals as goal

pub returns : goal.returns
returns c = folded_cmp-prefix
