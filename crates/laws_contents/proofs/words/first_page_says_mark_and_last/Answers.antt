use Rattle.laws_contents.proofs.words.Laws.{first_page_says_mark_and_last}
use Rattle.laws_contents.proofs.words.first_page_says_mark_and_last.Goals as goal

pub returns : goal.returns
returns c = first_page_says_mark_and_last
