use Rattle.laws_format.proofs.inside.Preparing.{preparing_shows_same}
use Rattle.laws_format.proofs.preparing.preparing_shows_same.Goals as goal

pub returns : goal.returns
returns c = preparing_shows_same
