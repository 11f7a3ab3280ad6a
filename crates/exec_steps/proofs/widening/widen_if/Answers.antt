use Rattle.disk_records.specs.Tapes.{pack}
use Rattle.exec_session.specs.Meant.{kept}
use Rattle.exec_steps.proofs.Widened.{first_is_free, not_widened, widened}
use Rattle.exec_steps.proofs.widening.widen_if.Goals as goal

pub returns-then-wanted-clause-steps : goal.returns-then-wanted-clause-steps
returns-then-wanted-clause-steps g c = λ told stands free.
    let a = g.D.Tape.tape c.args.disk.now in
    widened a (g.D.Tape.tape c.widen_dir.new.disk) (kept c.args.session.now) (kept c.widen_dir.new.session) c.args.dir.now.fid c.args.wanted c.args.fresh.now c.widen_dir.result c.if-wanted.true c.requires.many
    (c.widen_dir.ensures.steps told stands (first_is_free (pack a) c.args.wanted c.args.fresh.now c.if-wanted.true c.requires.many free))

pub returns-else-wanted-clause-steps : goal.returns-else-wanted-clause-steps
returns-else-wanted-clause-steps g c = λ told stands free.
    not_widened (g.D.Tape.tape c.args.disk.now) (kept c.args.session.now) c.args.dir.now.fid c.args.wanted c.args.fresh.now tt c.if-wanted.false
