use Rattle.laws_operation.proofs.places.Laws.{file_that_does_not_live_has_no_page}
use Rattle.laws_operation.proofs.places.file_that_does_not_live_has_no_page.Goals as goal

pub returns : goal.returns
returns c = file_that_does_not_live_has_no_page
