use Rattle.std.proofs.Common.{◌≡◌, take, All}
use Rattle.dir_slots.specs.Items.{slots_words}
use Rattle.dir_slots.specs.Laws.{HasStoredName}
use Rattle.dir_slots.proofs.write.write_slots.Given as goal

abbrev pub invariant-loop-slot : goal.invariant-loop-slot
invariant-loop-slot l = record {
  so_far : l.words.items ≡ slots_words (take l.slot-index l.slots);
  stored : All HasStoredName (take l.slot-index l.slots);
}
