use Rattle.std.proofs.Common.{◌∷◌, [], sym, ap, ◌∙◌}
use Rattle.disk_records.proofs.Framing.{usable_twice}
use Rattle.disk_records.specs.Addresses.{pages_of}
use Rattle.disk_records.proofs.Growing.{alone_twice}
use Rattle.session_model.specs.Effects.{appended_ops}
use Rattle.exec_session.specs.Meant.{kept}
use Rattle.exec_writing.proofs.Appending.{append_opens}
use Rattle.exec_writing.proofs.Opening.{opening_fails}
use Rattle.exec_writing.proofs.Quickly.{opened_quickly}
use Rattle.exec_session.proofs.Causing.{cause_sooner}
use Rattle.exec_session.proofs.Parts.{ok_of_error}
use Rattle.exec_steps.proofs.Frames.{cause_passed, never_refused, works_twice}
use Rattle.exec_writing.proofs.append.write_append.Goals as goal

pub returns-in_err-open_mark-clause-writes : goal.returns-in_err-open_mark-clause-writes
returns-in_err-open_mark-clause-writes g c = λ told may.
    let a = g.D.Tape.tape c.args.disk.now in
    let b = g.D.Tape.tape c.open_mark.new.disk in
    let s = c.args.session.now in
    let file = c.args.file.now in
    opening_fails a b (kept s) (kept c.open_mark.new.session) (appended_ops file.fid c.args.bytes.now s.moment) c.args.fresh.now (file.fid ∷ []) c.in_err-open_mark.field-0.0 c.from_residual.result c.from_residual.ensures.1
    (λ one at start. c.in_err-open_mark.ensures.starts one at c.args.fresh.now told start)

pub returns-clause-writes : goal.returns-clause-writes
returns-clause-writes g c = λ told may.
    let a = g.D.Tape.tape c.args.disk.now in
    let b = g.D.Tape.tape c.open_mark.new.disk in
    let d = g.D.Tape.tape c.grow_and_stamp.new.disk in
    let s = c.args.session.now in
    let t = c.open_mark.new.session in
    append_opens a b d (kept s) (kept t) (kept c.grow_and_stamp.new.session) c.args.file.now c.args.bytes.now c.args.fresh.now s.moment t.moment c.in_ok-open_mark.ensures.works.moment c.in_ok-open_mark.field-0 c.grow_and_stamp.result may
    (λ one at start. c.in_ok-open_mark.ensures.starts one at c.args.fresh.now told start) (λ still. c.grow_and_stamp.ensures.steps told still)

pub returns-clause-quick : goal.returns-clause-quick
returns-clause-quick g c = λ one at told may start quick last.
    let a = g.D.Tape.tape c.args.disk.now in
    let b = g.D.Tape.tape c.open_mark.new.disk in
    let d = g.D.Tape.tape c.grow_and_stamp.new.disk in
    let s = c.args.session.now in
    let t = c.open_mark.new.session in
    let e = c.in_ok-open_mark.ensures in
    opened_quickly a b d one at c.args.bytes.now c.args.fresh.now c.args.file.now s t c.grow_and_stamp.new.session c.in_ok-open_mark.field-0 c.grow_and_stamp.result may start (e.starts one at c.args.fresh.now told start) quick last e.same e.works c.grow_and_stamp.ensures.works (e.runs told start.fits)
    (λ o ops still midway links handy named. c.grow_and_stamp.ensures.quick a one at [] (o ∷ ops) [] told still midway links handy named)

pub returns-clause-alone : goal.returns-clause-alone
returns-clause-alone g c = alone_twice c.open_mark.ensures.alone c.grow_and_stamp.ensures.alone

pub returns-clause-frame : goal.returns-clause-frame
returns-clause-frame g c = usable_twice c.open_mark.ensures.alone c.grow_and_stamp.ensures.alone c.open_mark.ensures.frame c.grow_and_stamp.ensures.frame

pub returns-in_err-open_mark-clause-unrefused : goal.returns-in_err-open_mark-clause-unrefused
returns-in_err-open_mark-clause-unrefused g c = never_refused (Unit {0}) (λ r. ⊥) c.in_err-open_mark.field-0.0 c.from_residual.result c.from_residual.ensures.1 c.in_err-open_mark.ensures.unrefused

pub returns-in_err-open_mark-clause-cause : goal.returns-in_err-open_mark-clause-cause
returns-in_err-open_mark-clause-cause g c = cause_passed (g.D.Tape.tape c.args.disk.now) (g.D.Tape.tape c.open_mark.new.disk) c.in_err-open_mark.field-0.0 c.from_residual.result c.from_residual.ensures.1 c.in_err-open_mark.ensures.cause

pub returns-in_err-open_mark-clause-works : goal.returns-in_err-open_mark-clause-works
returns-in_err-open_mark-clause-works g c = c.in_err-open_mark.ensures.works

pub returns-in_err-open_mark-clause-alone : goal.returns-in_err-open_mark-clause-alone
returns-in_err-open_mark-clause-alone g c = c.in_err-open_mark.ensures.alone

pub returns-in_err-open_mark-clause-frame : goal.returns-in_err-open_mark-clause-frame
returns-in_err-open_mark-clause-frame g c = c.in_err-open_mark.ensures.frame

pub returns-clause-unrefused : goal.returns-clause-unrefused
returns-clause-unrefused g c = c.grow_and_stamp.ensures.unrefused

pub returns-clause-cause : goal.returns-clause-cause
returns-clause-cause g c = cause_sooner (g.D.Tape.tape c.args.disk.now) (g.D.Tape.tape c.open_mark.new.disk) (g.D.Tape.tape c.grow_and_stamp.new.disk) c.grow_and_stamp.result c.in_ok-open_mark.ensures.cause c.grow_and_stamp.ensures.cause

pub returns-clause-works : goal.returns-clause-works
returns-clause-works g c = works_twice c.in_ok-open_mark.ensures.works c.grow_and_stamp.ensures.works

pub returns-in_err-open_mark-clause-quick : goal.returns-in_err-open_mark-clause-quick
returns-in_err-open_mark-clause-quick g c = λ one at told may start quick last. ok_of_error _ _ c.from_residual.result c.from_residual.ensures.1

pub grow_and_stamp-requires-clause-shape : goal.grow_and_stamp-requires-clause-shape
grow_and_stamp-requires-clause-shape g c = c.in_ok-open_mark.ensures.works.shape ∙ c.requires.shape ∙ sym c.in_ok-open_mark.ensures.alone.grown.form

pub grow_and_stamp-requires-clause-sized : goal.grow_and_stamp-requires-clause-sized
grow_and_stamp-requires-clause-sized g c = c.in_ok-open_mark.ensures.works.sized ∙ c.requires.sized ∙ ap pages_of (sym c.in_ok-open_mark.ensures.alone.grown.form)
