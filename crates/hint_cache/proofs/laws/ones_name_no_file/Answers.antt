use Rattle.hint_cache.proofs.Ones.{unlisted_by_ones}
use Rattle.hint_cache.proofs.laws.ones_name_no_file.Goals as goal

pub returns : goal.returns
returns c = unlisted_by_ones
