use Rattle.std.proofs.Common.{rules}
use Rattle.disk_memory.proofs.Counting.{place_more, place_end}
use Rattle.disk_memory.proofs.sure.SureMachine.place_of_write.Goals as goal

pub loop-place-preserved : goal.loop-place-preserved
loop-place-preserved c =
    place_more c.args.self.now.events.items c.deref-event-items.result.now c.args.k c.loop-place.place c.loop-place.left c.writes_of_event-left.result c.event-item.result c.deref-event-items.ensures.value c.loop-place-test.true c.event-item.is c.if-left-eq0.false c.writes_of_event-left.ensures c.loop-place.invariant

pub returns : goal.returns
returns c =
    let same = c.deref-event-items.ensures.value in
    place_end c.args.self.now.events.items c.args.k c.loop-place.place c.loop-place.left c.len.result (search rules) (search rules) (search rules) c.loop-place.invariant
