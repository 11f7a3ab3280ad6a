use Rattle.std.proofs.Common.{sym, ◌∙◌}
use Rattle.exec_writing.proofs.DropFinding.{some_entry}
use Rattle.exec_writing.proofs.rmdir.has_entry.Goals as goal

pub returns-then-is_entry : goal.returns-then-is_entry
returns-then-is_entry c = some_entry c.args.slots.now c.slot-item.result c.loop-slot.slot-index c.loop-slot-test.true c.slot-item.is (sym c.is_entry.ensures ∙ c.if-is_entry.true)
