use Rattle.laws_room.proofs.inside.Rooming.{counting_theorem}
use Rattle.laws_room.proofs.numbers.counting_theorem.Goals as goal

pub returns : goal.returns
returns c = counting_theorem
