use Rattle.exec_words.proofs.ReadTyped.{read_is_typed}
use Rattle.exec_words.proofs.laws.read_is_typed.Goals as goal

pub returns : goal.returns
returns c = read_is_typed
