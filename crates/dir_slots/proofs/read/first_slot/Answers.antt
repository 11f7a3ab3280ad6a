use Rattle.std.proofs.Common.{refl}
use Rattle.dir_slots.proofs.Slots.{front_of}
use Rattle.dir_slots.proofs.read.first_slot.Goals as goal

pub returns-clause-item : goal.returns-clause-item
returns-clause-item c = c.slot_here.ensures.item c.args.words.now refl (front_of c.args.words.now c.min-front.result c.min-front.ensures)

pub returns-clause-address : goal.returns-clause-address
returns-clause-address c = c.slot_here.ensures.address c.args.words.now refl (front_of c.args.words.now c.min-front.result c.min-front.ensures)
