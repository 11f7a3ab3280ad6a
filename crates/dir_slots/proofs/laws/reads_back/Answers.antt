use Rattle.dir_slots.proofs.Writing as proof
use Rattle.dir_slots.proofs.laws.reads_back.Goals as goal

pub returns : goal.returns
returns c = proof.reads_back
