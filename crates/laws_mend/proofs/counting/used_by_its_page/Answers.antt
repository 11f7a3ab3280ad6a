use Rattle.laws_mend.proofs.inside.Pages.{used_by_its_page}
use Rattle.laws_mend.proofs.counting.used_by_its_page.Goals as goal

pub returns : goal.returns
returns c = used_by_its_page
