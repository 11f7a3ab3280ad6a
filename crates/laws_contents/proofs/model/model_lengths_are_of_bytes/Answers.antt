use Rattle.laws_contents.proofs.model.Laws.{model_lengths_are_of_bytes}
use Rattle.laws_contents.proofs.model.model_lengths_are_of_bytes.Goals as goal

pub returns : goal.returns
returns c = model_lengths_are_of_bytes
