use Rattle.laws_mend.proofs.inside.Pages.{counts_by_its_format}
use Rattle.laws_mend.proofs.counting.counts_by_its_format.Goals as goal

pub returns : goal.returns
returns c = counts_by_its_format
