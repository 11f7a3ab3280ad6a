use Rattle.std.proofs.Common.{ℕ, [], arith}
use Rattle.disk_records.specs.Tapes.{pack}
use Rattle.exec_session.specs.label_check.specs.declared.errors.PageInfo.{PageInfo}
use Rattle.laws_operation.proofs.places.Laws.{carried_in_place}
use Rattle.page_seeking.specs.Refs.{MisledBy}
use Rattle.page_seeking.specs.Seeking.{page_number}
use Rattle.exec_session.proofs.Causing.{cause_by_file, cause_passed, not_wanted_by_file}
use Rattle.exec_session.proofs.Looking.{hints_looked}
use Rattle.exec_session.proofs.Parts.{ok_of_error}
use Rattle.exec_session.proofs.Stopping.{hint_of_file, unrefused_within}
use Rattle.exec_session.specs.Stops.{stop_of_file}
use Rattle.exec_writing.proofs.rename.leader_of.Goals as goal

pub returns-clause-leader : goal.returns-clause-leader
returns-clause-leader g c = λ told sound. carried_in_place (pack (g.D.Tape.tape c.args.disk.now)) (page_number c.args.file.now.fid 0) c.in_ok-leader_at.leader_at sound.whole (c.in_ok-leader_at.ensures.stands told).carries

pub returns-in_err-leader_at-clause-leader : goal.returns-in_err-leader_at-clause-leader
returns-in_err-leader_at-clause-leader g c = λ told sound. ok_of_error _ _ c.from_residual.result c.from_residual.ensures.1

pub returns-in_err-leader_at-clause-unrefused : goal.returns-in_err-leader_at-clause-unrefused
returns-in_err-leader_at-clause-unrefused g c = unrefused_within (ℕ × PageInfo) (λ n. ⊥) c.in_err-leader_at.field-0.0 c.from_residual.result c.from_residual.ensures.1 (λ n none. none) (c.in_err-leader_at.ensures.never_beyond (omega arith))

pub returns-in_err-leader_at-clause-misled : goal.returns-in_err-leader_at-clause-misled
returns-in_err-leader_at-clause-misled g c = λ told from.
    let by = MisledBy (pack (g.D.Tape.tape c.args.disk.now)) [] c.args.file.now.fid in
    hint_of_file (ℕ × PageInfo) by by c.in_err-leader_at.field-0.0 c.from_residual.result c.from_residual.ensures.1 (λ place at wanted found h. h) (c.in_err-leader_at.ensures.misled told from)

pub returns-in_err-leader_at-clause-cause : goal.returns-in_err-leader_at-clause-cause
returns-in_err-leader_at-clause-cause g c = cause_passed (g.D.Tape.tape c.args.disk.now) (g.D.Tape.tape c.locate.new.disk) (stop_of_file c.in_err-leader_at.field-0.0) c.from_residual.result c.from_residual.ensures.1 (cause_by_file (g.D.Tape.tape c.args.disk.now) (g.D.Tape.tape c.locate.new.disk) c.in_err-leader_at.field-0.0 c.in_err-leader_at.ensures.cause)

pub returns-in_err-leader_at-clause-want : goal.returns-in_err-leader_at-clause-want
returns-in_err-leader_at-clause-want g c = λ told. not_wanted_by_file (ℕ × PageInfo) c.in_err-leader_at.field-0.0 c.from_residual.result c.from_residual.ensures.1 (c.in_err-leader_at.ensures.want told)

pub returns-in_err-leader_at-clause-looks : goal.returns-in_err-leader_at-clause-looks
returns-in_err-leader_at-clause-looks g c = hints_looked c.args.session.now c.locate.new.hints c.in_err-leader_at.ensures.looks c.in_err-leader_at.ensures.table c.in_err-leader_at.ensures.refused c.in_err-leader_at.ensures.handy

pub returns-clause-unrefused : goal.returns-clause-unrefused
returns-clause-unrefused g c = tt

pub returns-clause-misled : goal.returns-clause-misled
returns-clause-misled g c = λ told from. tt

pub returns-clause-cause : goal.returns-clause-cause
returns-clause-cause g c = c.in_ok-leader_at.ensures.cause

pub returns-clause-want : goal.returns-clause-want
returns-clause-want g c = λ told is. cc

pub returns-clause-looks : goal.returns-clause-looks
returns-clause-looks g c = hints_looked c.args.session.now c.locate.new.hints c.in_ok-leader_at.ensures.looks c.in_ok-leader_at.ensures.table c.in_ok-leader_at.ensures.refused c.in_ok-leader_at.ensures.handy
