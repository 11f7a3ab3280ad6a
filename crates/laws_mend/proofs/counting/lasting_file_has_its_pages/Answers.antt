use Rattle.laws_mend.proofs.inside.Pages.{lasting_file_has_its_pages}
use Rattle.laws_mend.proofs.counting.lasting_file_has_its_pages.Goals as goal

pub returns : goal.returns
returns c = lasting_file_has_its_pages
