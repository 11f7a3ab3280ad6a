use Rattle.laws_mend.proofs.inside.Pages.{counts_by_its_end}
use Rattle.laws_mend.proofs.counting.counts_by_its_end.Goals as goal

pub returns : goal.returns
returns c = counts_by_its_end
