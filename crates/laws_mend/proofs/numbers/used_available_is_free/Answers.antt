use Rattle.laws_mend.proofs.inside.Counting.{used_available_is_free}
use Rattle.laws_mend.proofs.numbers.used_available_is_free.Goals as goal

pub returns : goal.returns
returns c = used_available_is_free
