use Rattle.std.proofs.Common.{[], ◌≡◌, sym}
use Rattle.disk_records.proofs.Framing.{usable_looks}
use Rattle.disk_records.proofs.Growing.{alone_twice}
use Rattle.exec_words.specs.declared.line.Line.TheVariants as line
use Rattle.exec_session.proofs.Looking.{stays_looked}
use Rattle.exec_writing.proofs.DropAnswers.{delete_drops, goes_on_found, stops_unfound}
use Rattle.exec_steps.proofs.Frames.{stays_worked, works_looked, works_twice, cause_passed, if_refused}
use Rattle.disk_records.specs.Tapes.{added}
use Rattle.exec_session.proofs.Causing.{cause_sooner}
use Rattle.exec_writing.proofs.Causing.{refuses_none}
use Rattle.exec_session.proofs.Framing.{usable_looked}
use Rattle.exec_writing.proofs.delete.delete_file.Goals as goal

pub returns-in_err-found-clause-turns : goal.returns-in_err-found-clause-turns
returns-in_err-found-clause-turns g c = λ told.
    stops_unfound (g.D.Tape.tape c.args.disk.now) (g.D.Tape.tape c.find_deleted.new.disk) c.args.session.now c.find_deleted.new.session (line.Delete c.args.path.now) c.in_err-found.field-0.0 c.from_residual.result (delete_drops c.args.path.now) told c.requires.obeys
    c.find_deleted.ensures.looks c.from_residual.ensures.1 (c.in_err-found.ensures.finds told)

pub returns-clause-turns : goal.returns-clause-turns
returns-clause-turns g c = λ told.
    goes_on_found (g.D.Tape.tape c.args.disk.now) (g.D.Tape.tape c.find_deleted.new.disk) (g.D.Tape.tape c.drop_line.new.disk) c.args.session.now c.find_deleted.new.session c.drop_line.new.session (line.Delete c.args.path.now) c.in_ok-found.found c.drop_line.result
    (delete_drops c.args.path.now) told c.requires.obeys c.find_deleted.ensures.looks c.drop_line.ensures.alone
    (g.met.D.Disk.formed c.find_deleted.new.disk told) (g.met.D.Disk.counted c.args.disk.now told) (g.met.D.Disk.counted c.find_deleted.new.disk told)
    (c.in_ok-found.ensures.finds told)
    (λ s begins formed same drops may. c.drop_line.ensures.turned _ s (line.Delete c.args.path.now) told begins formed same drops may)

pub returns-in_err-found-clause-stays : goal.returns-in_err-found-clause-stays
returns-in_err-found-clause-stays g c = stays_looked (g.D.Tape.tape c.args.disk.now) (g.D.Tape.tape c.find_deleted.new.disk) c.find_deleted.ensures.looks.looked c.find_deleted.ensures.looks.looks.alone.grown.form c.requires.obeys.formed

pub returns-clause-stays : goal.returns-clause-stays
returns-clause-stays g c =
    let alone = alone_twice c.find_deleted.ensures.looks.looks.alone c.drop_line.ensures.alone in
    stays_worked (g.D.Tape.tape c.args.disk.now) (g.D.Tape.tape c.drop_line.new.disk) (works_twice (works_looked c.find_deleted.ensures.looks.looked) c.drop_line.ensures.works) alone.grown.form c.requires.obeys.formed

pub returns-clause-alone : goal.returns-clause-alone
returns-clause-alone g c = alone_twice c.find_deleted.ensures.looks.looks.alone c.drop_line.ensures.alone

pub returns-clause-frame : goal.returns-clause-frame
returns-clause-frame g c = usable_looked c.find_deleted.ensures.looks.looks c.drop_line.ensures.alone c.drop_line.ensures.frame

pub returns-in_err-found-clause-unwritten : goal.returns-in_err-found-clause-unwritten
returns-in_err-found-clause-unwritten g c = λ told. if_refused (added (g.D.Tape.tape c.args.disk.now) (g.D.Tape.tape c.find_deleted.new.disk) ≡ []) c.from_residual.result (c.in_err-found.ensures.looks.looks.silent told)

pub returns-in_err-found-clause-cause : goal.returns-in_err-found-clause-cause
returns-in_err-found-clause-cause g c = cause_passed (g.D.Tape.tape c.args.disk.now) (g.D.Tape.tape c.find_deleted.new.disk) c.in_err-found.field-0.0 c.from_residual.result c.from_residual.ensures.1 c.in_err-found.ensures.cause

pub returns-in_err-found-clause-alone : goal.returns-in_err-found-clause-alone
returns-in_err-found-clause-alone g c = c.in_err-found.ensures.looks.looks.alone

pub returns-in_err-found-clause-frame : goal.returns-in_err-found-clause-frame
returns-in_err-found-clause-frame g c = usable_looks c.in_err-found.ensures.looks.looks

pub returns-clause-unwritten : goal.returns-clause-unwritten
returns-clause-unwritten g c = λ told. refuses_none (λ r. added (g.D.Tape.tape c.args.disk.now) (g.D.Tape.tape c.drop_line.new.disk) ≡ []) c.drop_line.result c.drop_line.ensures.unrefused

pub returns-clause-cause : goal.returns-clause-cause
returns-clause-cause g c = cause_sooner (g.D.Tape.tape c.args.disk.now) (g.D.Tape.tape c.find_deleted.new.disk) (g.D.Tape.tape c.drop_line.new.disk) c.drop_line.result c.in_ok-found.ensures.cause c.drop_line.ensures.cause

pub drop_line-requires-clause-shape : goal.drop_line-requires-clause-shape
drop_line-requires-clause-shape g c =
    let about = c.find_deleted.ensures.looks in
    sym (stays_worked (g.D.Tape.tape c.args.disk.now) (g.D.Tape.tape c.find_deleted.new.disk) (works_looked about.looked) about.looks.alone.grown.form c.requires.obeys.formed).formed.shape

pub drop_line-requires-clause-sized : goal.drop_line-requires-clause-sized
drop_line-requires-clause-sized g c =
    let about = c.find_deleted.ensures.looks in
    (stays_worked (g.D.Tape.tape c.args.disk.now) (g.D.Tape.tape c.find_deleted.new.disk) (works_looked about.looked) about.looks.alone.grown.form c.requires.obeys.formed).formed.bits
