use Rattle.std.proofs.Common.{ℕ, []}
use Rattle.disk_records.specs.Tapes.{pack}
use Rattle.page_seeking.specs.Refs.{MisledBy}
use Rattle.exec_session.proofs.Stopping.{hint_of_file, unrefused_by_file}
use Rattle.exec_session.proofs.Parts.{ok_of_error}
use Rattle.exec_session.proofs.Causing.{cause_by_length, cause_passed, not_wanted_by_file}
use Rattle.exec_session.proofs.Looking.{hints_looked}
use Rattle.exec_session.specs.Stops.{stop_of_file}
use Rattle.exec_session.proofs.contents.length_of.Goals as goal

pub returns-in_err-length-clause-misled : goal.returns-in_err-length-clause-misled
returns-in_err-length-clause-misled g c = λ told sound from.
    let p = pack (g.D.Tape.tape c.args.disk.now) in
    let f = c.args.file.now.fid in
    hint_of_file ℕ (MisledBy p [] f) (MisledBy p [] f) c.in_err-length.field-0.0 c.from_residual.result c.from_residual.ensures.1
    (λ place at wanted found h. h)
    (c.in_err-length.ensures.misled told from)

pub returns-in_err-length-clause-length : goal.returns-in_err-length-clause-length
returns-in_err-length-clause-length g c = λ told sound. ok_of_error _ _ c.from_residual.result c.from_residual.ensures.1

pub returns-in_err-length-clause-most : goal.returns-in_err-length-clause-most
returns-in_err-length-clause-most g c = ok_of_error _ _ c.from_residual.result c.from_residual.ensures.1

pub returns-in_err-length-clause-quick : goal.returns-in_err-length-clause-quick
returns-in_err-length-clause-quick g c = λ told quick named. ok_of_error _ _ c.from_residual.result c.from_residual.ensures.1

pub returns-in_err-length-clause-unrefused : goal.returns-in_err-length-clause-unrefused
returns-in_err-length-clause-unrefused g c = unrefused_by_file (λ r. ⊥) (g.D.Tape.tape c.args.disk.now) (g.D.Tape.tape c.length.new.disk) c.in_err-length.field-0.0 c.from_residual.result c.from_residual.ensures.1 c.in_err-length.ensures.cause

pub returns-in_err-length-clause-cause : goal.returns-in_err-length-clause-cause
returns-in_err-length-clause-cause g c = cause_passed (g.D.Tape.tape c.args.disk.now) (g.D.Tape.tape c.length.new.disk) (stop_of_file c.in_err-length.field-0.0) c.from_residual.result c.from_residual.ensures.1 (cause_by_length (g.D.Tape.tape c.args.disk.now) (g.D.Tape.tape c.length.new.disk) c.in_err-length.field-0.0 c.in_err-length.ensures.cause)

pub returns-in_err-length-clause-want : goal.returns-in_err-length-clause-want
returns-in_err-length-clause-want g c = λ told. not_wanted_by_file ℕ c.in_err-length.field-0.0 c.from_residual.result c.from_residual.ensures.1 (c.in_err-length.ensures.want told)

pub returns-in_err-length-clause-looks : goal.returns-in_err-length-clause-looks
returns-in_err-length-clause-looks g c = hints_looked c.args.session.now c.length.new.hints c.in_err-length.ensures.looks c.in_err-length.ensures.table c.in_err-length.ensures.refused c.in_err-length.ensures.handy

pub returns-clause-looks : goal.returns-clause-looks
returns-clause-looks g c = hints_looked c.args.session.now c.length.new.hints c.in_ok-length.ensures.looks c.in_ok-length.ensures.table c.in_ok-length.ensures.refused c.in_ok-length.ensures.handy

pub returns-clause-length : goal.returns-clause-length
returns-clause-length g c = λ told sound. c.in_ok-length.ensures.length told sound.whole

pub returns-clause-most : goal.returns-clause-most
returns-clause-most g c = c.in_ok-length.ensures.bound

pub returns-clause-unrefused : goal.returns-clause-unrefused
returns-clause-unrefused g c = tt

pub returns-clause-misled : goal.returns-clause-misled
returns-clause-misled g c = λ told sound from. tt

pub returns-clause-cause : goal.returns-clause-cause
returns-clause-cause g c = c.in_ok-length.ensures.cause

pub returns-clause-want : goal.returns-clause-want
returns-clause-want g c = λ told is. cc

pub returns-clause-quick : goal.returns-clause-quick
returns-clause-quick g c = c.in_ok-length.ensures.quick
