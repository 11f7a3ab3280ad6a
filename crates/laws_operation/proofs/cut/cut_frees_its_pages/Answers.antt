use Rattle.laws_operation.proofs.inside.looks.Freed.{cut_frees_its_pages}
use Rattle.laws_operation.proofs.cut.cut_frees_its_pages.Goals as goal

pub returns : goal.returns
returns c = cut_frees_its_pages
