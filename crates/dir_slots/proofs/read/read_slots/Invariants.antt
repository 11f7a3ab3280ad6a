use Rattle.std.proofs.Common.{◌≡◌, ◌≤◌, ◌-◌, ◌++◌, length, drop, map, All}
use Rattle.pack_model.specs.reading.Slots.{slots, all_words}
use Rattle.dir_slots.specs.Items.{items_of, address_of, addresses_in, IsInRange}
use Rattle.dir_slots.specs.Laws.{HasStoredName}
use Rattle.dir_slots.proofs.Slots.{addresses_from}
use Rattle.dir_slots.proofs.read.read_slots.Given as goal

abbrev pub invariant-loop-slot : goal.invariant-loop-slot
invariant-loop-slot l = record {
  items : items_of l.read.items ++ slots (drop l.at l.words) ≡ slots l.words;
  addresses : map address_of l.read.items ++ addresses_from l.words l.at (slots (drop l.at l.words)) ≡ addresses_in l.words;
  in_range : All IsInRange l.read.items;
  stored : All HasStoredName l.read.items;
  size : l.at ≡ all_words (items_of l.read.items);
  within : l.at ≤ length l.words;
}

abbrev pub decreases-loop-slot : goal.decreases-loop-slot
decreases-loop-slot l = length l.words - l.at
