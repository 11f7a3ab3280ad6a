use Rattle.alto_words.proofs.Ordered.{same_parts}
use Rattle.alto_words.proofs.laws.same_by_base_and_version.Goals as goal

pub returns : goal.returns
returns c = same_parts
