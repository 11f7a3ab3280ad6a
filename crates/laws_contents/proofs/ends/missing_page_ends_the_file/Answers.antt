use Rattle.laws_contents.proofs.ends.Laws.{missing_page_ends_the_file}
use Rattle.laws_contents.proofs.ends.missing_page_ends_the_file.Goals as goal

pub returns : goal.returns
returns c = missing_page_ends_the_file
