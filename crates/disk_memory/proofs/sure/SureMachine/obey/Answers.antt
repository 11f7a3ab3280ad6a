use Rattle.std.proofs.Common.{rules, refl, sym, ◌∙◌}
use Rattle.disk_memory.proofs.Adding.{adds_then, alone_counted, ran_whole, silent-writes}
use Rattle.disk_memory.proofs.Keeping.{sector_here}
use Rattle.disk_memory.proofs.sure.SureMachine.obey.Goals as goal

pub returns-clause-alone : goal.returns-clause-alone
returns-clause-alone c =
    let all = adds_then c.make_room.ensures.adds (adds_then c.write_record.ensures.adds (adds_then c.write_record-2.ensures.adds c.write_record-3.ensures.adds)) in
    alone_counted c.saturating_add-self.ensures (search rules) all (silent-writes c.args.at c.args.plan c.args.buf.now) refl refl

pub returns-clause-ran : goal.returns-clause-ran
returns-clause-ran c =
    let all = adds_then c.make_room.ensures.adds (adds_then c.write_record.ensures.adds (adds_then c.write_record-2.ensures.adds c.write_record-3.ensures.adds)) in
    let m = c.args.self.now in
    let stands = sector_here m.sectors.items m.base.items m.events.items c.args.at _ c.index.result.now m.right m.sized c.requires c.index.ensures in
    ran_whole c.args.at c.args.plan c.args.buf.now c.update_memory.new.memory c.index.result.now c.saturating_add-self.ensures all stands (sym c.first_mismatch.ensures ∙ c.in_default.is) c.update_memory.ensures
