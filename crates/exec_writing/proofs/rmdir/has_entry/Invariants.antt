use Rattle.std.proofs.Common.{◌≡◌, false, take}
use Rattle.std.specs.List.{list_any}
use Rattle.dir_slots.specs.Items.{items_of}
use Rattle.laws_lookup.specs.DropLaws.{is_an_entry}
use Rattle.exec_writing.proofs.rmdir.has_entry.Given as goal

abbrev pub invariant-loop-slot : goal.invariant-loop-slot
invariant-loop-slot l = list_any is_an_entry (items_of (take l.slot-index l.slots)) ≡ false
