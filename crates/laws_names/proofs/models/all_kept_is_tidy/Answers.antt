use Rattle.laws_names.proofs.inside.Models.{all_kept_is_tidy}
use Rattle.laws_names.proofs.models.all_kept_is_tidy.Goals as goal

pub returns : goal.returns
returns c = all_kept_is_tidy
