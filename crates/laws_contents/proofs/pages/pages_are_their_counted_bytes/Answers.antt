use Rattle.laws_contents.proofs.pages.Laws.{pages_are_their_counted_bytes}
use Rattle.laws_contents.proofs.pages.pages_are_their_counted_bytes.Goals as goal

pub returns : goal.returns
returns c = pages_are_their_counted_bytes
