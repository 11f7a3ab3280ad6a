use Rattle.std.proofs.Common.{rules, ◌∙◌}
use Rattle.std.proofs.Math.ListN.{length-set}
use Rattle.disk_memory.proofs.Forming.{formed_wrote}
use Rattle.disk_memory.proofs.Keeping.{right_wrote, counted_wrote, whole_wrote}
use Rattle.disk_memory.proofs.sure.SureMachine.write.Goals as goal

pub invariant_of-self-clause-right : goal.invariant_of-self-clause-right
invariant_of-self-clause-right c =
    let m = c.args.self.now in
    right_wrote m.shape m.sectors.items m.base.items m.events.items c.push_ready.new.items.items c.args.at c.args.part c.args.words.now c.index_mut.result.now c.replace_record.new.sector m.right m.sized (search rules) c.index_mut.ensures.value c.requires.place c.replace_record.ensures

pub invariant_of-self-clause-sized : goal.invariant_of-self-clause-sized
invariant_of-self-clause-sized c = let m = c.args.self.now in length-set m.sectors.items c.args.at c.replace_record.new.sector ∙ m.sized

pub invariant_of-self-clause-counted : goal.invariant_of-self-clause-counted
invariant_of-self-clause-counted c =
    let m = c.args.self.now in
    counted_wrote m.events.items c.push_ready.new.items.items c.args.at c.args.part m.writes c.saturating_add-self.result c.args.words.now m.counted (search rules) c.saturating_add-self.ensures

pub invariant_of-self-clause-whole : goal.invariant_of-self-clause-whole
invariant_of-self-clause-whole c =
    let m = c.args.self.now in
    whole_wrote m.shape m.events.items c.push_ready.new.items.items c.args.at c.args.part c.args.words.now m.whole (search rules) c.requires.place c.requires.one c.requires.whole

pub invariant_of-self-clause-formed : goal.invariant_of-self-clause-formed
invariant_of-self-clause-formed c =
    let m = c.args.self.now in
    formed_wrote m.sectors.items c.args.at c.args.part c.args.words.now c.index_mut.result.now c.replace_record.new.sector m.formed (rw m.sized c.requires.place) c.index_mut.ensures.value c.requires.whole c.replace_record.ensures
