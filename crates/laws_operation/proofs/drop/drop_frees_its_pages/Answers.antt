use Rattle.laws_operation.proofs.inside.looks.Freed.{drop_frees_its_pages}
use Rattle.laws_operation.proofs.drop.drop_frees_its_pages.Goals as goal

pub returns : goal.returns
returns c = drop_frees_its_pages
