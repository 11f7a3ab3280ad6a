use Rattle.laws_names.proofs.inside.Scanned.{mended_slots}
use Rattle.laws_names.proofs.models.mended_slots.Goals as goal

pub returns : goal.returns
returns c = mended_slots
