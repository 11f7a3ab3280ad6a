use Rattle.laws_record.proofs.DirKinds.{free_slots_made_one}
use Rattle.laws_record.proofs.directories.free_slots_made_one.Goals as goal

pub returns : goal.returns
returns c = free_slots_made_one
