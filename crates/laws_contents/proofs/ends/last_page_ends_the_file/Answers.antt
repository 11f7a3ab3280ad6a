use Rattle.laws_contents.proofs.ends.Laws.{last_page_ends_the_file}
use Rattle.laws_contents.proofs.ends.last_page_ends_the_file.Goals as goal

pub returns : goal.returns
returns c = last_page_ends_the_file
