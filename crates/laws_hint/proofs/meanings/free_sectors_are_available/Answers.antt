use Rattle.laws_hint.proofs.inside.Meaning.{free_sectors_are_available}
use Rattle.laws_hint.proofs.meanings.free_sectors_are_available.Goals as goal

pub returns : goal.returns
returns c = free_sectors_are_available
