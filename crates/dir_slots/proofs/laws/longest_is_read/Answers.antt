use Rattle.dir_slots.proofs.Longest as proof
use Rattle.dir_slots.proofs.laws.longest_is_read.Goals as goal

pub returns : goal.returns
returns c = proof.longest_is_read
