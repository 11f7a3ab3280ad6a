use Rattle.laws_operation.proofs.inside.links.DirValues.{loose_words_keep_links}
use Rattle.laws_operation.proofs.enter.loose_words_keep_links.Goals as goal

pub returns : goal.returns
returns c = loose_words_keep_links
