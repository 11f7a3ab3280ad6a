use Rattle.laws_names.proofs.inside.Models.{mended_is_read}
use Rattle.laws_names.proofs.models.mended_is_read.Goals as goal

pub returns : goal.returns
returns c = mended_is_read
