use Rattle.std.proofs.Common.{None, refl}
use Rattle.disk_records.specs.Tapes.{pack}
use Rattle.exec_session.proofs.SerialFiles.{found_no_serial, found_serial, least_of_all}
use Rattle.exec_session.proofs.Causing.{cause_by_look, cause_passed}
use Rattle.exec_session.specs.Stops.{stop_of_look}
use Rattle.exec_session.proofs.Parts.{ok_of_error}
use Rattle.exec_session.proofs.Stopping.{hint_by_look, unrefused_by_look}
use Rattle.exec_session.proofs.serials.find_serial.Goals as goal

pub returns-in-Some-clause-found : goal.returns-in-Some-clause-found
returns-in-Some-clause-found g c = λ told sound.
    let p = pack (g.D.Tape.tape c.args.disk.now) in
    let least = least_of_all (record { serial = c.args.serial; best = None }) c.sweep.new.visitor refl c.in_ok-sweep.ensures.swept told in
    let at = found_serial p c.args.serial c.sweep.new.visitor.best c.in-Some.found sound least c.in-Some.is in
    record { is = at.0; from = (refl, at.1) }

pub returns-in-None-clause-absent : goal.returns-in-None-clause-absent
returns-in-None-clause-absent g c = λ told sound.
    let p = pack (g.D.Tape.tape c.args.disk.now) in
    let least = least_of_all (record { serial = c.args.serial; best = None }) c.sweep.new.visitor refl c.in_ok-sweep.ensures.swept told in
    (refl, found_no_serial p c.args.serial c.sweep.new.visitor.best sound least c.in-None.is)

pub returns-in_err-sweep-clause-found : goal.returns-in_err-sweep-clause-found
returns-in_err-sweep-clause-found g c = λ told sound. ok_of_error _ _ c.from_residual.result c.from_residual.ensures.1

pub returns-in_err-sweep-clause-cause : goal.returns-in_err-sweep-clause-cause
returns-in_err-sweep-clause-cause g c = cause_passed (g.D.Tape.tape c.args.disk.now) (g.D.Tape.tape c.sweep.new.disk) (stop_of_look c.in_err-sweep.field-0.0) c.from_residual.result c.from_residual.ensures.1 (cause_by_look (g.D.Tape.tape c.args.disk.now) (g.D.Tape.tape c.sweep.new.disk) c.in_err-sweep.field-0.0 c.in_err-sweep.ensures.cause)

pub returns-in_err-sweep-clause-absent : goal.returns-in_err-sweep-clause-absent
returns-in_err-sweep-clause-absent g c = λ told sound. unrefused_by_look _ c.in_err-sweep.field-0.0 c.from_residual.result c.from_residual.ensures.1

pub returns-in_err-sweep-clause-never_misled : goal.returns-in_err-sweep-clause-never_misled
returns-in_err-sweep-clause-never_misled g c = hint_by_look _ c.in_err-sweep.field-0.0 c.from_residual.result c.from_residual.ensures.1

pub returns-in_err-sweep-clause-looks : goal.returns-in_err-sweep-clause-looks
returns-in_err-sweep-clause-looks g c = c.in_err-sweep.ensures.looks

pub returns-in-Some-clause-absent : goal.returns-in-Some-clause-absent
returns-in-Some-clause-absent g c = λ told sound. tt

pub returns-in-Some-clause-never_misled : goal.returns-in-Some-clause-never_misled
returns-in-Some-clause-never_misled g c = tt

pub returns-in-Some-clause-cause : goal.returns-in-Some-clause-cause
returns-in-Some-clause-cause g c = c.in_ok-sweep.ensures.cause

pub returns-in-Some-clause-want : goal.returns-in-Some-clause-want
returns-in-Some-clause-want g c = λ told is. cc

pub returns-in-Some-clause-looks : goal.returns-in-Some-clause-looks
returns-in-Some-clause-looks g c = c.in_ok-sweep.ensures.looks

pub returns-in-None-clause-found : goal.returns-in-None-clause-found
returns-in-None-clause-found g c = λ told sound. tt

pub returns-in-None-clause-never_misled : goal.returns-in-None-clause-never_misled
returns-in-None-clause-never_misled g c = tt

pub returns-in-None-clause-cause : goal.returns-in-None-clause-cause
returns-in-None-clause-cause g c = c.in_ok-sweep.ensures.cause

pub returns-in-None-clause-want : goal.returns-in-None-clause-want
returns-in-None-clause-want g c = λ told is. cc

pub returns-in-None-clause-looks : goal.returns-in-None-clause-looks
returns-in-None-clause-looks g c = c.in_ok-sweep.ensures.looks
