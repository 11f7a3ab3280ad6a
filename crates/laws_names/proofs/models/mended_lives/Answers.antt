use Rattle.laws_names.proofs.inside.Models.{mended_lives}
use Rattle.laws_names.proofs.models.mended_lives.Goals as goal

pub returns : goal.returns
returns c = mended_lives
