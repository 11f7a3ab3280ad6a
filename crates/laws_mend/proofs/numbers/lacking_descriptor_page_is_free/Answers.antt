use Rattle.laws_mend.proofs.inside.LackedDescriptor.{lacking_descriptor_page_is_free}
use Rattle.laws_mend.proofs.numbers.lacking_descriptor_page_is_free.Goals as goal

pub returns : goal.returns
returns c = lacking_descriptor_page_is_free
