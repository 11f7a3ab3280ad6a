use Rattle.std.proofs.Common.{sym, ap, ◌∙◌}
use Rattle.disk_records.proofs.Framing.{usable_twice}
use Rattle.disk_records.specs.Addresses.{pages_of}
use Rattle.disk_records.proofs.Growing.{alone_twice}
use Rattle.session_model.specs.Streams.{grows}
use Rattle.exec_session.specs.Meant.{kept}
use Rattle.exec_writing.proofs.Appending.{appends_stay}
use Rattle.exec_writing.proofs.Quickly.{grown_quickly}
use Rattle.exec_writing.proofs.Stamping.{stamped_after, unstamped}
use Rattle.exec_session.proofs.Causing.{cause_sooner}
use Rattle.exec_session.proofs.Parts.{ok_of_error}
use Rattle.exec_steps.proofs.Frames.{cause_passed, never_refused, works_twice}
use Rattle.exec_writing.proofs.append.grow_and_stamp.Goals as goal

pub returns-in_err-grow_file-clause-steps : goal.returns-in_err-grow_file-clause-steps
returns-in_err-grow_file-clause-steps g c = λ told may.
    let a = g.D.Tape.tape c.args.disk.now in
    let b = g.D.Tape.tape c.grow_file.new.disk in
    let s = c.args.session.now in
    let file = c.args.file.now in
    unstamped a b (kept s) (kept c.grow_file.new.session) (grows file.fid c.args.bytes.now) file s.moment c.args.fresh.now c.in_err-grow_file.field-0.0 c.from_residual.result c.from_residual.ensures.1 (c.in_err-grow_file.ensures.steps told may)

pub returns-clause-steps : goal.returns-clause-steps
returns-clause-steps g c = λ told may.
    let a = g.D.Tape.tape c.args.disk.now in
    let b = g.D.Tape.tape c.grow_file.new.disk in
    let d = g.D.Tape.tape c.stamp_file.new.disk in
    let s = c.args.session.now in
    let t = c.grow_file.new.session in
    let file = c.args.file.now in
    let bytes = c.args.bytes.now in
    stamped_after a b d (kept s) (kept t) (kept c.stamp_file.new.session) (grows file.fid bytes) file s.moment t.moment c.args.fresh.now c.in_ok-grow_file.field-0 c.stamp_file.result c.in_ok-grow_file.ensures.works.moment (appends_stay file.fid bytes file.from) may.found
    (c.in_ok-grow_file.ensures.steps told may) (λ is. c.stamp_file.ensures.steps told is)

pub returns-clause-quick : goal.returns-clause-quick
returns-clause-quick g c = λ old one at done all rest told may midway links quick last.
    let a = g.D.Tape.tape c.args.disk.now in
    let b = g.D.Tape.tape c.grow_file.new.disk in
    let d = g.D.Tape.tape c.stamp_file.new.disk in
    let s = c.args.session.now in
    let t = c.grow_file.new.session in
    let file = c.args.file.now in
    let e = c.in_ok-grow_file.ensures in
    grown_quickly old a b d one (kept s) (kept t) at done all c.args.bytes.now c.args.fresh.now rest file s t c.stamp_file.new.session c.in_ok-grow_file.field-0 c.stamp_file.result (e.steps told may) midway links quick last
    e.works c.stamp_file.ensures.works (e.quick told may quick last) (λ near. e.named 0 told may near) (e.handy told may) (λ more cached near. c.stamp_file.ensures.climbs more told cached near)

pub returns-clause-alone : goal.returns-clause-alone
returns-clause-alone g c = alone_twice c.grow_file.ensures.alone c.stamp_file.ensures.alone

pub returns-clause-frame : goal.returns-clause-frame
returns-clause-frame g c = usable_twice c.grow_file.ensures.alone c.stamp_file.ensures.alone c.grow_file.ensures.frame c.stamp_file.ensures.frame

pub returns-in_err-grow_file-clause-unrefused : goal.returns-in_err-grow_file-clause-unrefused
returns-in_err-grow_file-clause-unrefused g c = never_refused (Unit {0}) (λ r. ⊥) c.in_err-grow_file.field-0.0 c.from_residual.result c.from_residual.ensures.1 c.in_err-grow_file.ensures.unrefused

pub returns-in_err-grow_file-clause-cause : goal.returns-in_err-grow_file-clause-cause
returns-in_err-grow_file-clause-cause g c = cause_passed (g.D.Tape.tape c.args.disk.now) (g.D.Tape.tape c.grow_file.new.disk) c.in_err-grow_file.field-0.0 c.from_residual.result c.from_residual.ensures.1 c.in_err-grow_file.ensures.cause

pub returns-in_err-grow_file-clause-works : goal.returns-in_err-grow_file-clause-works
returns-in_err-grow_file-clause-works g c = c.in_err-grow_file.ensures.works

pub returns-in_err-grow_file-clause-alone : goal.returns-in_err-grow_file-clause-alone
returns-in_err-grow_file-clause-alone g c = c.in_err-grow_file.ensures.alone

pub returns-in_err-grow_file-clause-frame : goal.returns-in_err-grow_file-clause-frame
returns-in_err-grow_file-clause-frame g c = c.in_err-grow_file.ensures.frame

pub returns-clause-unrefused : goal.returns-clause-unrefused
returns-clause-unrefused g c = c.stamp_file.ensures.unrefused

pub returns-clause-cause : goal.returns-clause-cause
returns-clause-cause g c = cause_sooner (g.D.Tape.tape c.args.disk.now) (g.D.Tape.tape c.grow_file.new.disk) (g.D.Tape.tape c.stamp_file.new.disk) c.stamp_file.result c.in_ok-grow_file.ensures.cause c.stamp_file.ensures.cause

pub returns-clause-works : goal.returns-clause-works
returns-clause-works g c = works_twice c.in_ok-grow_file.ensures.works c.stamp_file.ensures.works

pub returns-in_err-grow_file-clause-quick : goal.returns-in_err-grow_file-clause-quick
returns-in_err-grow_file-clause-quick g c = λ old one at done all rest told may midway links quick last. ok_of_error _ _ c.from_residual.result c.from_residual.ensures.1

pub stamp_file-requires-clause-shape : goal.stamp_file-requires-clause-shape
stamp_file-requires-clause-shape g c = c.in_ok-grow_file.ensures.works.shape ∙ c.requires.shape ∙ sym c.in_ok-grow_file.ensures.alone.grown.form

pub stamp_file-requires-clause-sized : goal.stamp_file-requires-clause-sized
stamp_file-requires-clause-sized g c = c.in_ok-grow_file.ensures.works.sized ∙ c.requires.sized ∙ ap pages_of (sym c.in_ok-grow_file.ensures.alone.grown.form)
