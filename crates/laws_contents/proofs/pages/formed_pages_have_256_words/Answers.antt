use Rattle.laws_contents.proofs.pages.Laws.{formed_pages_have_256_words}
use Rattle.laws_contents.proofs.pages.formed_pages_have_256_words.Goals as goal

pub returns : goal.returns
returns c = formed_pages_have_256_words
