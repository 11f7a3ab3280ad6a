use Rattle.laws_room.proofs.inside.Claiming.{claim_takes_an_available_sector}
use Rattle.laws_room.proofs.uses.claim_takes_an_available_sector.Goals as goal

pub returns : goal.returns
returns c = claim_takes_an_available_sector
