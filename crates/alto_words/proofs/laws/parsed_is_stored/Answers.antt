use Rattle.alto_words.proofs.Parsed.{name_in-stored}
use Rattle.alto_words.proofs.laws.parsed_is_stored.Goals as goal

pub returns : goal.returns
returns c = name_in-stored
