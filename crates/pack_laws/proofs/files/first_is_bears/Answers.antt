use Rattle.pack_laws.proofs.files.Laws.{first_is_bears}
use Rattle.pack_laws.proofs.files.first_is_bears.Goals as goal

pub returns : goal.returns
returns g c = first_is_bears _ _
