use Rattle.laws_contents.proofs.model.Laws.{directory_is_its_pages}
use Rattle.laws_contents.proofs.model.directory_is_its_pages.Goals as goal

pub returns : goal.returns
returns c = directory_is_its_pages
