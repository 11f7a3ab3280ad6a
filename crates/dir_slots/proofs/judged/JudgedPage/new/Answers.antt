use Rattle.std.proofs.Common.{replicate}
use Rattle.dir_slots.proofs.Keyed.{none_keyed}
use Rattle.dir_slots.proofs.judged.JudgedPage.new.Goals as goal

pub invariant_of-result : goal.invariant_of-result
invariant_of-result c = none_keyed (replicate 256 0) 257
