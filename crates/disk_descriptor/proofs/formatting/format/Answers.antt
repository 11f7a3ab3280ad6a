use Rattle.std.proofs.Common.{rules, ◌≡◌, ◌+◌, ◌<◌, ◌≤◌, take, ap, subst, ◌∙◌, arith}
use Rattle.disk_records.specs.declared.shape.Shape.{Shape}
use Rattle.disk_records.specs.Addresses.{pages_of}
use Rattle.disk_records.specs.Packs.{sector_at}
use Rattle.disk_records.specs.Tapes.{added}
use Rattle.disk_records.proofs.Growing.{alone_twice}
use Rattle.pack_model.specs.sessions.Format.{formatted, sectors_writes}
use Rattle.disk_descriptor.proofs.Steps.{broke_off, done_whole, leaves_its_pack, more_written}
use Rattle.disk_descriptor.proofs.formatting.format.Goals as goal

pub returns-in_err-write_sector-clause-alone : goal.returns-in_err-write_sector-clause-alone
returns-in_err-write_sector-clause-alone g c = alone_twice c.loop-at.invariant.alone c.in_err-write_sector.ensures.alone

pub returns-in_err-write_sector-clause-writes : goal.returns-in_err-write_sector-clause-writes
returns-in_err-write_sector-clause-writes g c = λ told.
    let old = g.D.Tape.tape c.args.disk.now in
    let end = c.loop-at.invariant.end in
    let low : c.loop-at.at < pages_of old.form = omega (arith, end) in
    let is = c.sector.ensures ∙ ap (λ (s : Shape). sector_at (formatted s c.args.number c.args.moment) c.loop-at.at) c.shape-shape.ensures in
    broke_off c.args.number c.args.moment c.loop-at.at c.sector.result c.loop-at.invariant.alone c.in_err-write_sector.ensures.alone low (c.loop-at.invariant.wrote told) is _ _ (search rules) (c.loop-at.invariant.runs told) (c.in_err-write_sector.ensures.writes told)

pub loop-at-preserved : goal.loop-at-preserved
loop-at-preserved g c =
    let old = g.D.Tape.tape c.args.disk.now in
    let end = c.loop-at.invariant.end in
    let low : c.loop-at.at < pages_of old.form = omega (arith, end) in
    let is = c.sector.ensures ∙ ap (λ (s : Shape). sector_at (formatted s c.args.number c.args.moment) c.loop-at.at) c.shape-shape.ensures in
    record {
      alone = alone_twice c.loop-at.invariant.alone c.in_ok-write_sector.ensures.alone;
      unfailed = c.in_ok-write_sector.ensures.cause ∙ c.loop-at.invariant.unfailed;
      end = end;
      wrote = λ told. more_written c.args.number c.args.moment c.loop-at.at c.sector.result c.loop-at.invariant.alone c.in_ok-write_sector.ensures.alone low (c.loop-at.invariant.wrote told) is (c.in_ok-write_sector.ensures.writes told).ok;
      runs = λ told. let ran = c.loop-at.invariant.runs told in let once = (c.in_ok-write_sector.ensures.writes told).runs in omega (arith, ran, once);
    }

pub returns-clause-writes : goal.returns-clause-writes
returns-clause-writes g c = λ told.
    let all : c.loop-at.at ≡ pages_of (g.D.Tape.tape c.args.disk.now).form = (let end = c.loop-at.invariant.end in omega (arith, end)) in
    let ran = subst (λ n. (g.D.Tape.tape c.loop-at.disk).runs ≤ (g.D.Tape.tape c.args.disk.now).runs + n) all (c.loop-at.invariant.runs told) in
    done_whole c.args.number c.args.moment c.loop-at.invariant.alone ran (subst (λ n. added (g.D.Tape.tape c.args.disk.now) (g.D.Tape.tape c.loop-at.disk) ≡ sectors_writes 0 (take n (formatted (g.D.Tape.tape c.args.disk.now).form c.args.number c.args.moment).sectors)) all (c.loop-at.invariant.wrote told)) _

pub returns-clause-leaves : goal.returns-clause-leaves
returns-clause-leaves g c = λ told.
    let all : c.loop-at.at ≡ pages_of (g.D.Tape.tape c.args.disk.now).form = (let end = c.loop-at.invariant.end in omega (arith, end)) in
    let ran = subst (λ n. (g.D.Tape.tape c.loop-at.disk).runs ≤ (g.D.Tape.tape c.args.disk.now).runs + n) all (c.loop-at.invariant.runs told) in
    leaves_its_pack c.args.number c.args.moment c.loop-at.invariant.alone ran (subst (λ n. added (g.D.Tape.tape c.args.disk.now) (g.D.Tape.tape c.loop-at.disk) ≡ sectors_writes 0 (take n (formatted (g.D.Tape.tape c.args.disk.now).form c.args.number c.args.moment).sectors)) all (c.loop-at.invariant.wrote told)) (g.met.D.Disk.sized c.args.disk.now told)
