use Rattle.laws_mend.proofs.inside.Lacked.{lacking_page_is_free}
use Rattle.laws_mend.proofs.numbers.lacking_page_is_free.Goals as goal

pub returns : goal.returns
returns c = lacking_page_is_free
