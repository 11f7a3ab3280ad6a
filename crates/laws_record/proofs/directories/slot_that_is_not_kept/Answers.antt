use Rattle.laws_record.proofs.DirKinds.{slot_that_is_not_kept}
use Rattle.laws_record.proofs.directories.slot_that_is_not_kept.Goals as goal

pub returns : goal.returns
returns c = slot_that_is_not_kept
