use Rattle.std.proofs.Common.{[], sym, ap, ◌∙◌}
use Rattle.disk_records.proofs.Framing.{usable_twice}
use Rattle.disk_records.specs.Addresses.{pages_of}
use Rattle.disk_records.proofs.Growing.{alone_twice}
use Rattle.exec_session.specs.Meant.{kept}
use Rattle.exec_writing.specs.Cutting.{cuts}
use Rattle.exec_writing.proofs.Cutting.{cuts_stay}
use Rattle.exec_writing.proofs.Stamping.{stamped_after, unstamped}
use Rattle.exec_session.proofs.Causing.{cause_sooner}
use Rattle.exec_steps.proofs.Frames.{cause_passed, never_refused, works_twice}
use Rattle.exec_writing.proofs.cut.shorten_and_stamp.Goals as goal

pub returns-in_err-shorten_file-clause-steps : goal.returns-in_err-shorten_file-clause-steps
returns-in_err-shorten_file-clause-steps g c = λ told may.
    let a = g.D.Tape.tape c.args.disk.now in
    let b = g.D.Tape.tape c.shorten_file.new.disk in
    let s = c.args.session.now in
    let m = c.args.found.now in
    unstamped a b (kept s) (kept c.shorten_file.new.session) (cuts m.file.fid m.length c.args.length) m.file s.moment [] c.in_err-shorten_file.field-0.0 c.from_residual.result c.from_residual.ensures.1 (c.in_err-shorten_file.ensures.steps told may)

pub returns-clause-steps : goal.returns-clause-steps
returns-clause-steps g c = λ told may.
    let a = g.D.Tape.tape c.args.disk.now in
    let b = g.D.Tape.tape c.shorten_file.new.disk in
    let d = g.D.Tape.tape c.stamp_file.new.disk in
    let s = c.args.session.now in
    let t = c.shorten_file.new.session in
    let m = c.args.found.now in
    stamped_after a b d (kept s) (kept t) (kept c.stamp_file.new.session) (cuts m.file.fid m.length c.args.length) m.file s.moment t.moment [] c.in_ok-shorten_file.field-0 c.stamp_file.result c.in_ok-shorten_file.ensures.works.moment (cuts_stay m.file.fid m.length c.args.length m.file.from) may.found
    (c.in_ok-shorten_file.ensures.steps told may) (λ is. c.stamp_file.ensures.steps told is)

pub returns-clause-alone : goal.returns-clause-alone
returns-clause-alone g c = alone_twice c.shorten_file.ensures.alone c.stamp_file.ensures.alone

pub returns-clause-frame : goal.returns-clause-frame
returns-clause-frame g c = usable_twice c.shorten_file.ensures.alone c.stamp_file.ensures.alone c.shorten_file.ensures.frame c.stamp_file.ensures.frame

pub returns-in_err-shorten_file-clause-unrefused : goal.returns-in_err-shorten_file-clause-unrefused
returns-in_err-shorten_file-clause-unrefused g c = never_refused (Unit {0}) (λ r. ⊥) c.in_err-shorten_file.field-0.0 c.from_residual.result c.from_residual.ensures.1 c.in_err-shorten_file.ensures.unrefused

pub returns-in_err-shorten_file-clause-cause : goal.returns-in_err-shorten_file-clause-cause
returns-in_err-shorten_file-clause-cause g c = cause_passed (g.D.Tape.tape c.args.disk.now) (g.D.Tape.tape c.shorten_file.new.disk) c.in_err-shorten_file.field-0.0 c.from_residual.result c.from_residual.ensures.1 c.in_err-shorten_file.ensures.cause

pub returns-in_err-shorten_file-clause-works : goal.returns-in_err-shorten_file-clause-works
returns-in_err-shorten_file-clause-works g c = c.in_err-shorten_file.ensures.works

pub returns-in_err-shorten_file-clause-alone : goal.returns-in_err-shorten_file-clause-alone
returns-in_err-shorten_file-clause-alone g c = c.in_err-shorten_file.ensures.alone

pub returns-in_err-shorten_file-clause-frame : goal.returns-in_err-shorten_file-clause-frame
returns-in_err-shorten_file-clause-frame g c = c.in_err-shorten_file.ensures.frame

pub returns-clause-unrefused : goal.returns-clause-unrefused
returns-clause-unrefused g c = c.stamp_file.ensures.unrefused

pub returns-clause-cause : goal.returns-clause-cause
returns-clause-cause g c = cause_sooner (g.D.Tape.tape c.args.disk.now) (g.D.Tape.tape c.shorten_file.new.disk) (g.D.Tape.tape c.stamp_file.new.disk) c.stamp_file.result c.in_ok-shorten_file.ensures.cause c.stamp_file.ensures.cause

pub returns-clause-works : goal.returns-clause-works
returns-clause-works g c = works_twice c.in_ok-shorten_file.ensures.works c.stamp_file.ensures.works

pub stamp_file-requires-clause-shape : goal.stamp_file-requires-clause-shape
stamp_file-requires-clause-shape g c = c.in_ok-shorten_file.ensures.works.shape ∙ c.requires.shape ∙ sym c.in_ok-shorten_file.ensures.alone.grown.form

pub stamp_file-requires-clause-sized : goal.stamp_file-requires-clause-sized
stamp_file-requires-clause-sized g c = c.in_ok-shorten_file.ensures.works.sized ∙ c.requires.sized ∙ ap pages_of (sym c.in_ok-shorten_file.ensures.alone.grown.form)
