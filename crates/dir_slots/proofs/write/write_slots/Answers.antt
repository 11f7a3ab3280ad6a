use Rattle.std.proofs.Common.{length, ap, ◌∙◌}
use Rattle.pack_model.specs.reading.Slots.{slots as items_in}
use Rattle.dir_slots.specs.Items.{addresses_in}
use Rattle.dir_slots.proofs.Writing.{words_more, stored_more, written_back}
use Rattle.dir_slots.proofs.write.write_slots.Goals as goal

pub loop-slot-preserved : goal.loop-slot-preserved
loop-slot-preserved c = record {
  so_far = rw c.in_ok-push_slot.ensures.words (words_more c.args.slots.now c.loop-slot.slot-index c.slot-item.result c.loop-slot.words.items c.loop-slot-test.true c.slot-item.is c.loop-slot.invariant.so_far);
  stored = stored_more c.args.slots.now c.loop-slot.slot-index c.slot-item.result c.loop-slot-test.true c.slot-item.is c.loop-slot.invariant.stored c.in_ok-push_slot.ensures.stored;
}

pub returns-clause-back : goal.returns-clause-back
returns-clause-back c = ap items_in c.from_vec.ensures ∙ (written_back c.args.slots.now c.loop-slot.slot-index c.loop-slot.words.items c.loop-slot-test.false c.requires c.loop-slot.invariant.so_far c.loop-slot.invariant.stored).items

pub returns-clause-addresses : goal.returns-clause-addresses
returns-clause-addresses c = ap addresses_in c.from_vec.ensures ∙ (written_back c.args.slots.now c.loop-slot.slot-index c.loop-slot.words.items c.loop-slot-test.false c.requires c.loop-slot.invariant.so_far c.loop-slot.invariant.stored).addresses

pub returns-clause-length : goal.returns-clause-length
returns-clause-length c = ap length c.from_vec.ensures ∙ (written_back c.args.slots.now c.loop-slot.slot-index c.loop-slot.words.items c.loop-slot-test.false c.requires c.loop-slot.invariant.so_far c.loop-slot.invariant.stored).size
