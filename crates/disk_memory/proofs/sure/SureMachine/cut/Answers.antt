use Rattle.std.proofs.Common.{rules, refl}
use Rattle.disk_memory.proofs.Adding.{cut_begun, cut_more, is_cut}
use Rattle.disk_memory.proofs.Keeping.{whole_in}
use Rattle.disk_memory.proofs.sure.SureMachine.cut.Goals as goal

pub loop-event-init : goal.loop-event-init
loop-event-init c =
    cut_begun c.args.self.now.shape c.in_ok-sectors.sectors.items c.args.self.now.base.items c.new.result.items c.in_ok-machine.ensures (search rules) c.new.ensures.items

pub redo-requires : goal.redo-requires
redo-requires c =
    let m = c.args.self.now in
    whole_in m.shape c.loop-event.machine.shape m.events.items c.deref-2.result.now c.args.count c.loop-event.event-index c.event-item.result c.loop-event.invariant.grown.form c.deref-2.ensures.value m.whole c.loop-event-test.true c.event-item.is

pub loop-event-preserved : goal.loop-event-preserved
loop-event-preserved c = cut_more _ c.loop-event.event-index c.event-item.result c.loop-event.invariant c.in_ok-redo.ensures c.loop-event-test.true c.event-item.is

pub returns : goal.returns
returns c = is_cut c.deref-2.result.now c.args.count c.loop-event.event-index c.loop-event.invariant c.deref-2.ensures.value c.loop-event-test.false c.loop-event.machine.counted refl refl refl
