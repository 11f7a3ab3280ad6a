use Rattle.std.proofs.Common.{[], ◌∷◌}
use Rattle.disk_records.proofs.Framing.{usable_twice}
use Rattle.disk_records.proofs.Growing.{alone_twice}
use Rattle.session_model.specs.Streams.{puts}
use Rattle.exec_session.specs.Meant.{kept}
use Rattle.exec_writing.proofs.Opening.{opening_fails}
use Rattle.exec_writing.proofs.Patching.{patch_opens}
use Rattle.exec_session.proofs.Causing.{cause_sooner}
use Rattle.exec_steps.proofs.Frames.{cause_passed, never_refused, works_twice}
use Rattle.exec_writing.proofs.patch.write_patch.Goals as goal

pub returns-in_err-open_mark-clause-writes : goal.returns-in_err-open_mark-clause-writes
returns-in_err-open_mark-clause-writes g c = λ told may some.
    let a = g.D.Tape.tape c.args.disk.now in
    let b = g.D.Tape.tape c.open_mark.new.disk in
    let s = c.args.session.now in
    let file = c.args.file.now in
    opening_fails a b (kept s) (kept c.open_mark.new.session) (puts file.fid c.args.offset c.args.bytes.now) [] (file.fid ∷ []) c.in_err-open_mark.field-0.0 c.from_residual.result c.from_residual.ensures.1
    (λ one at start. c.in_err-open_mark.ensures.starts one at [] told start)

pub returns-clause-writes : goal.returns-clause-writes
returns-clause-writes g c = λ told may some.
    let a = g.D.Tape.tape c.args.disk.now in
    let b = g.D.Tape.tape c.open_mark.new.disk in
    let d = g.D.Tape.tape c.put_parts.new.disk in
    let s = c.args.session.now in
    patch_opens a b d (kept s) (kept c.open_mark.new.session) (kept c.put_parts.new.session) c.args.file.now c.args.offset c.args.bytes.now some c.in_ok-open_mark.field-0 c.put_parts.result may
    (λ one at start. c.in_ok-open_mark.ensures.starts one at [] told start) (λ still. c.put_parts.ensures.steps told still)

pub returns-clause-alone : goal.returns-clause-alone
returns-clause-alone g c = alone_twice c.open_mark.ensures.alone c.put_parts.ensures.alone

pub returns-clause-frame : goal.returns-clause-frame
returns-clause-frame g c = usable_twice c.open_mark.ensures.alone c.put_parts.ensures.alone c.open_mark.ensures.frame c.put_parts.ensures.frame

pub returns-in_err-open_mark-clause-unrefused : goal.returns-in_err-open_mark-clause-unrefused
returns-in_err-open_mark-clause-unrefused g c = never_refused (Unit {0}) (λ r. ⊥) c.in_err-open_mark.field-0.0 c.from_residual.result c.from_residual.ensures.1 c.in_err-open_mark.ensures.unrefused

pub returns-in_err-open_mark-clause-cause : goal.returns-in_err-open_mark-clause-cause
returns-in_err-open_mark-clause-cause g c = cause_passed (g.D.Tape.tape c.args.disk.now) (g.D.Tape.tape c.open_mark.new.disk) c.in_err-open_mark.field-0.0 c.from_residual.result c.from_residual.ensures.1 c.in_err-open_mark.ensures.cause

pub returns-in_err-open_mark-clause-works : goal.returns-in_err-open_mark-clause-works
returns-in_err-open_mark-clause-works g c = c.in_err-open_mark.ensures.works

pub returns-in_err-open_mark-clause-alone : goal.returns-in_err-open_mark-clause-alone
returns-in_err-open_mark-clause-alone g c = c.in_err-open_mark.ensures.alone

pub returns-in_err-open_mark-clause-frame : goal.returns-in_err-open_mark-clause-frame
returns-in_err-open_mark-clause-frame g c = c.in_err-open_mark.ensures.frame

pub returns-clause-unrefused : goal.returns-clause-unrefused
returns-clause-unrefused g c = c.put_parts.ensures.unrefused

pub returns-clause-cause : goal.returns-clause-cause
returns-clause-cause g c = cause_sooner (g.D.Tape.tape c.args.disk.now) (g.D.Tape.tape c.open_mark.new.disk) (g.D.Tape.tape c.put_parts.new.disk) c.put_parts.result c.in_ok-open_mark.ensures.cause c.put_parts.ensures.cause

pub returns-clause-works : goal.returns-clause-works
returns-clause-works g c = works_twice c.in_ok-open_mark.ensures.works c.put_parts.ensures.works
