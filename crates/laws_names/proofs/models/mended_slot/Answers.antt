use Rattle.laws_names.proofs.inside.Scanned.{mended_slot}
use Rattle.laws_names.proofs.models.mended_slot.Goals as goal

pub returns : goal.returns
returns c = mended_slot
