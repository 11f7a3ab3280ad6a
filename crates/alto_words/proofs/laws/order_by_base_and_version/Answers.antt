use Rattle.alto_words.proofs.Ordered.{folded_cmp-parts}
use Rattle.alto_words.proofs.laws.order_by_base_and_version.Goals as goal

pub returns : goal.returns
returns c = folded_cmp-parts
