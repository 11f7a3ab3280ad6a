use Rattle.laws_lookup.proofs.Replacing.{entry_beside_stands}
use Rattle.laws_lookup.proofs.own.entry_beside_stands.Goals as goal

pub returns : goal.returns
returns c = entry_beside_stands
