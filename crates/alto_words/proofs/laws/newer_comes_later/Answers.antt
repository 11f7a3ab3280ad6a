use Rattle.alto_words.proofs.Ordered.{folded_cmp-newer}
use Rattle.alto_words.proofs.laws.newer_comes_later.Goals as goal

pub returns : goal.returns
returns c = folded_cmp-newer
