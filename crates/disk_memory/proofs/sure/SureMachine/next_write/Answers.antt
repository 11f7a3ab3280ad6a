use Rattle.std.proofs.Common.{rules, None, Some}
use Rattle.disk_memory.proofs.Counting.{next_end, next_here, none_answered}
use Rattle.disk_memory.proofs.sure.SureMachine.next_write.Goals as goal

pub returns-then-left-eq0-clause-none : goal.returns-then-left-eq0-clause-none
returns-then-left-eq0-clause-none c =
    let events = c.args.self.now.events.items in
    none_answered events c.args.k (Some c.in-Some.place)
    (next_here events c.deref-event-items.result.now c.args.k c.loop-event.event-index c.loop-event.left c.event-item.result c.in-Some.place c.deref-event-items.ensures.value c.loop-event-test.true c.event-item.is c.if-left-eq0.true (search rules) c.loop-event.invariant)

pub returns-clause-none : goal.returns-clause-none
returns-clause-none c =
    let events = c.args.self.now.events.items in
    none_answered events c.args.k None (next_end events c.deref-event-items.result.now c.args.k c.loop-event.event-index c.loop-event.left c.deref-event-items.ensures.value (search rules) c.loop-event.invariant)
