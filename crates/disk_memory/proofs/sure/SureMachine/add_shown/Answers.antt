use Rattle.std.proofs.Common.{rules}
use Rattle.disk_memory.proofs.Keeping.{right_shown, counted_shown, whole_shown}
use Rattle.disk_memory.proofs.sure.SureMachine.add_shown.Goals as goal

pub invariant_of-self-2-clause-right : goal.invariant_of-self-2-clause-right
invariant_of-self-2-clause-right c =
    let m = c.args.self.now in
    right_shown m.shape m.sectors.items m.base.items m.events.items c.push_shown.new.events.items c.args.bytes.now m.right (search rules)

pub invariant_of-self-2-clause-counted : goal.invariant_of-self-2-clause-counted
invariant_of-self-2-clause-counted c =
    let m = c.args.self.now in
    counted_shown m.events.items c.push_shown.new.events.items c.args.bytes.now m.writes m.counted (search rules)

pub invariant_of-self-2-clause-whole : goal.invariant_of-self-2-clause-whole
invariant_of-self-2-clause-whole c =
    let m = c.args.self.now in
    whole_shown m.shape m.events.items c.push_shown.new.events.items c.args.bytes.now m.whole (search rules)
