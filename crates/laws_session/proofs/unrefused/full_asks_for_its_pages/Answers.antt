use Rattle.laws_session.proofs.inside.Filling.{full_asks_for_its_pages}
use Rattle.laws_session.proofs.unrefused.full_asks_for_its_pages.Goals as goal

pub returns : goal.returns
returns c = full_asks_for_its_pages
