use Rattle.laws_contents.proofs.model.Laws.{ordinary_file_is_its_pages}
use Rattle.laws_contents.proofs.model.ordinary_file_is_its_pages.Goals as goal

pub returns : goal.returns
returns c = ordinary_file_is_its_pages
