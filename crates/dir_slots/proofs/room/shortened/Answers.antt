use Rattle.dir_slots.proofs.Shortening.{shortening_none, shortening_more, shortened_here, shortened_all}
use Rattle.dir_slots.proofs.room.shortened.Goals as goal

pub loop-slot-init : goal.loop-slot-init
loop-slot-init c = shortening_none c.args.row.now c.args.room c.requires.free

pub loop-slot-preserved : goal.loop-slot-preserved
loop-slot-preserved c = rw (c.words.ensures, c.words-in-loop-slot.ensures)
    (shortening_more c.args.row.now c.args.room c.loop-slot.room c.loop-slot.slot-index c.slot-item.result c.loop-slot-test.true c.slot-item.is c.requires.few c.if-room-le-MAX_FREE_WORDS.false c.loop-slot.invariant)

pub returns-then-room-le-MAX_FREE_WORDS : goal.returns-then-room-le-MAX_FREE_WORDS
returns-then-room-le-MAX_FREE_WORDS c = shortened_here c.args.row.now c.args.room c.loop-slot.room c.loop-slot.slot-index c.if-room-le-MAX_FREE_WORDS.true c.loop-slot.invariant

pub returns : goal.returns
returns c = shortened_all c.args.row.now c.args.room c.loop-slot.room c.loop-slot.slot-index c.loop-slot-test.false c.requires.most c.loop-slot.invariant
