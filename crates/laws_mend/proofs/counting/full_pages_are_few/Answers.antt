use Rattle.laws_mend.proofs.inside.Pages.{full_pages_are_few}
use Rattle.laws_mend.proofs.counting.full_pages_are_few.Goals as goal

pub returns : goal.returns
returns c = full_pages_are_few
