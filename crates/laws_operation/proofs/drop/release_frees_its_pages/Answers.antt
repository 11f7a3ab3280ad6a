use Rattle.laws_operation.proofs.inside.looks.Freed.{release_frees_its_pages}
use Rattle.laws_operation.proofs.drop.release_frees_its_pages.Goals as goal

pub returns : goal.returns
returns c = release_frees_its_pages
