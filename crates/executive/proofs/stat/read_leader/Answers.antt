use Rattle.std.proofs.Common.{ℕ, [], arith}
use Rattle.disk_records.specs.Tapes.{pack}
use Rattle.exec_session.specs.label_check.specs.declared.errors.PageInfo.{PageInfo}
use Rattle.page_seeking.specs.Refs.{MisledBy}
use Rattle.exec_session.proofs.Causing.{cause_by_file, cause_passed}
use Rattle.exec_session.proofs.Looking.{hints_looked}
use Rattle.exec_session.proofs.Parts.{ok_of_error}
use Rattle.exec_session.proofs.Stopping.{hint_of_file, unrefused_within}
use Rattle.exec_session.specs.Stops.{stop_of_file}
use Rattle.executive.proofs.stat.read_leader.Goals as goal

pub returns-in_err-locate-clause-leader : goal.returns-in_err-locate-clause-leader
returns-in_err-locate-clause-leader g c = λ told. ok_of_error _ _ c.from_residual.result c.from_residual.ensures.1

pub returns-in_err-locate-clause-unrefused : goal.returns-in_err-locate-clause-unrefused
returns-in_err-locate-clause-unrefused g c = unrefused_within (ℕ × PageInfo) (λ n. ⊥) c.in_err-locate.field-0.0 c.from_residual.result c.from_residual.ensures.1 (λ n none. none) (c.in_err-locate.ensures.never_beyond (omega arith))

pub returns-in_err-locate-clause-misled : goal.returns-in_err-locate-clause-misled
returns-in_err-locate-clause-misled g c = λ told from.
    let by = MisledBy (pack (g.D.Tape.tape c.args.disk.now)) [] c.args.file.now.fid in
    hint_of_file (ℕ × PageInfo) by by c.in_err-locate.field-0.0 c.from_residual.result c.from_residual.ensures.1 (λ place at wanted found h. h) (c.in_err-locate.ensures.misled told from)

pub returns-in_err-locate-clause-cause : goal.returns-in_err-locate-clause-cause
returns-in_err-locate-clause-cause g c = cause_passed (g.D.Tape.tape c.args.disk.now) (g.D.Tape.tape c.locate.new.disk) (stop_of_file c.in_err-locate.field-0.0) c.from_residual.result c.from_residual.ensures.1 (cause_by_file (g.D.Tape.tape c.args.disk.now) (g.D.Tape.tape c.locate.new.disk) c.in_err-locate.field-0.0 c.in_err-locate.ensures.cause)

pub returns-in_err-locate-clause-looks : goal.returns-in_err-locate-clause-looks
returns-in_err-locate-clause-looks g c = hints_looked c.args.session.now c.locate.new.hints c.in_err-locate.ensures.looks c.in_err-locate.ensures.table c.in_err-locate.ensures.refused c.in_err-locate.ensures.handy

pub returns-clause-unrefused : goal.returns-clause-unrefused
returns-clause-unrefused g c = tt

pub returns-clause-misled : goal.returns-clause-misled
returns-clause-misled g c = λ told from. tt

pub returns-clause-cause : goal.returns-clause-cause
returns-clause-cause g c = c.in_ok-locate.ensures.cause

pub returns-clause-looks : goal.returns-clause-looks
returns-clause-looks g c = hints_looked c.args.session.now c.locate.new.hints c.in_ok-locate.ensures.looks c.in_ok-locate.ensures.table c.in_ok-locate.ensures.refused c.in_ok-locate.ensures.handy
