use Rattle.laws_names.proofs.inside.Models.{tidy_mended_is_read}
use Rattle.laws_names.proofs.models.tidy_mended_is_read.Goals as goal

pub returns : goal.returns
returns c = tidy_mended_is_read
