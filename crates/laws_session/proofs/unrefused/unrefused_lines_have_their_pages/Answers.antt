use Rattle.laws_session.proofs.inside.Passing.{unrefused_lines_have_their_pages}
use Rattle.laws_session.proofs.unrefused.unrefused_lines_have_their_pages.Goals as goal

pub returns : goal.returns
returns c = unrefused_lines_have_their_pages
