use Rattle.pack_laws.proofs.inside.OldPacks.{old_packs}
use Rattle.pack_laws.proofs.names.old_packs.Goals as goal

pub returns : goal.returns
returns c = old_packs
