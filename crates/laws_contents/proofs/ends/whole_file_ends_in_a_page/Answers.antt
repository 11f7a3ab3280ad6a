use Rattle.laws_contents.proofs.ends.Laws.{whole_file_ends_in_a_page}
use Rattle.laws_contents.proofs.ends.whole_file_ends_in_a_page.Goals as goal

pub returns : goal.returns
returns c = whole_file_ends_in_a_page
