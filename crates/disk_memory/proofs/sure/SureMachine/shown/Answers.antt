use Rattle.std.proofs.Common.{rules}
use Rattle.disk_memory.proofs.Counting.{shown_more}
use Rattle.disk_memory.proofs.sure.SureMachine.shown.Goals as goal

pub loop-event-preserved : goal.loop-event-preserved
loop-event-preserved c =
    shown_more c.args.self.now.events.items c.deref-event-items.result.now c.loop-event.event-index c.event-item.result c.loop-event.bytes.items _ c.deref-event-items.ensures.value c.loop-event-test.true c.event-item.is c.loop-event.invariant (search rules)
