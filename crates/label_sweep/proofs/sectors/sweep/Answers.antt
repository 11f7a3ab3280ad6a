use Rattle.std.proofs.Common.{arith, refl, rules, ◌∙◌}
use Rattle.disk_records.proofs.Looking.{looks_none, looks_twice}
use Rattle.label_sweep.proofs.Sweeping.{swept_none, swept_more, swept_all}
use Rattle.label_sweep.proofs.sectors.sweep.Goals as goal

pub loop-at-init : goal.loop-at-init
loop-at-init g c =
    let first = g.D.Tape.tape c.args.disk.now in
    record {
      end = search rules;
      looks = looks_none _ first;
      unfailed = refl;
      swept = swept_none _ _ first c.args.visitor.now (g.met.D.Disk.sized c.args.disk.now);
    }

pub returns-in_err-visit_sector-clause-looks : goal.returns-in_err-visit_sector-clause-looks
returns-in_err-visit_sector-clause-looks g c = let end = c.loop-at.invariant.end in looks_twice _ c.loop-at.invariant.looks c.in_err-visit_sector.ensures.looks (omega (arith, end))

pub loop-at-preserved : goal.loop-at-preserved
loop-at-preserved g c =
    let inv = c.loop-at.invariant in
    let end = inv.end in
    record {
      end = end;
      looks = looks_twice _ inv.looks c.in_ok-visit_sector.ensures.looks (omega arith);
      unfailed = c.in_ok-visit_sector.ensures.cause ∙ inv.unfailed;
      swept = swept_more c.loop-at.at c.args.visitor.now c.loop-at.visitor c.visit_sector.new.visitor inv.looks (omega (arith, end)) (g.met.D.Disk.sized c.args.disk.now) inv.swept c.in_ok-visit_sector.ensures.seen;
    }

pub returns-clause-swept : goal.returns-clause-swept
returns-clause-swept g c = let end = c.loop-at.invariant.end in swept_all (omega (arith, end)) (g.met.D.Disk.sized c.args.disk.now) c.loop-at.invariant.swept
