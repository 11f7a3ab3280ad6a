use Rattle.std.proofs.Common.{refl}
use Rattle.dir_slots.proofs.Turns.{at_start, none_placed}
use Rattle.dir_slots.proofs.walk.Walk.new.Goals as goal

pub returns-clause-start : goal.returns-clause-start
returns-clause-start c = at_start _ refl (record { held = refl; front = refl }) refl

pub returns-clause-none : goal.returns-clause-none
returns-clause-none c = none_placed
