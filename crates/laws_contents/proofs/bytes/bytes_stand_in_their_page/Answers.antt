use Rattle.laws_contents.proofs.bytes.Laws.{bytes_stand_in_their_page}
use Rattle.laws_contents.proofs.bytes.bytes_stand_in_their_page.Goals as goal

pub returns : goal.returns
returns c = bytes_stand_in_their_page
