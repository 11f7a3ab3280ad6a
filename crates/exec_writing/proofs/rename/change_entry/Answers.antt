use Rattle.std.proofs.Common.{Result, [], subst, sym, ◌∷◌, ◌∙◌}
use Rattle.disk_records.proofs.Framing.{usable_twice}
use Rattle.disk_records.proofs.Growing.{alone_twice}
use Rattle.exec_session.proofs.Stopping.{error_is}
use Rattle.exec_session.specs.Meant.{kept}
use Rattle.exec_session.specs.declared.stop.Stop.{Stop}
use Rattle.exec_steps.specs.Midway.{StepsOn}
use Rattle.exec_writing.specs.Plans.{changed_entry}
use Rattle.exec_writing.proofs.Required.{shape_worked, sized_worked}
use Rattle.exec_writing.proofs.Renaming.{entry_changes, leaving_stops}
use Rattle.exec_session.proofs.Causing.{cause_sooner}
use Rattle.exec_steps.proofs.Frames.{cause_passed, never_refused, works_twice}
use Rattle.exec_writing.proofs.rename.change_entry.Goals as goal

pub returns-in_err-leave_dir-clause-steps : goal.returns-in_err-leave_dir-clause-steps
returns-in_err-leave_dir-clause-steps g c = λ told may.
    let a = g.D.Tape.tape c.args.disk.now in
    let b = g.D.Tape.tape c.leave_dir.new.disk in
    let k0 = kept c.args.session.now in
    let k1 = kept c.leave_dir.new.session in
    let plan = c.args.plan.now in
    subst (λ (r : Result (Unit {0}) Stop). StepsOn a b k0 k1 (changed_entry plan) [] (plan.found.dir.fid ∷ plan.entry.dir.fid ∷ []) r) (sym (error_is c.from_residual.result c.from_residual.ensures.1))
    (leaving_stops a b k0 k1 plan may (Unit {0}) (Unit {0}) c.in_err-leave_dir.field-0.0 (c.in_err-leave_dir.ensures.steps told may.leaves))

pub returns-clause-alone : goal.returns-clause-alone
returns-clause-alone g c = alone_twice c.leave_dir.ensures.alone c.enter_file.ensures.alone

pub returns-clause-frame : goal.returns-clause-frame
returns-clause-frame g c = usable_twice c.leave_dir.ensures.alone c.enter_file.ensures.alone c.leave_dir.ensures.frame c.enter_file.ensures.frame

pub returns-clause-steps : goal.returns-clause-steps
returns-clause-steps g c = λ told may.
    let a = g.D.Tape.tape c.args.disk.now in
    let b = g.D.Tape.tape c.leave_dir.new.disk in
    entry_changes a b (kept c.args.session.now) (kept c.leave_dir.new.session) c.args.plan.now may (g.D.Tape.tape c.enter_file.new.disk) (kept c.enter_file.new.session) c.in_ok-leave_dir.field-0 c.enter_file.result
    (c.in_ok-leave_dir.ensures.steps told may.leaves) (λ asked. c.enter_file.ensures.steps told asked)

pub returns-in_err-leave_dir-clause-unrefused : goal.returns-in_err-leave_dir-clause-unrefused
returns-in_err-leave_dir-clause-unrefused g c = never_refused (Unit {0}) (λ r. ⊥) c.in_err-leave_dir.field-0.0 c.from_residual.result c.from_residual.ensures.1 c.in_err-leave_dir.ensures.unrefused

pub returns-in_err-leave_dir-clause-cause : goal.returns-in_err-leave_dir-clause-cause
returns-in_err-leave_dir-clause-cause g c = cause_passed (g.D.Tape.tape c.args.disk.now) (g.D.Tape.tape c.leave_dir.new.disk) c.in_err-leave_dir.field-0.0 c.from_residual.result c.from_residual.ensures.1 c.in_err-leave_dir.ensures.cause

pub returns-in_err-leave_dir-clause-works : goal.returns-in_err-leave_dir-clause-works
returns-in_err-leave_dir-clause-works g c = c.in_err-leave_dir.ensures.works

pub returns-in_err-leave_dir-clause-descriptor : goal.returns-in_err-leave_dir-clause-descriptor
returns-in_err-leave_dir-clause-descriptor g c = c.in_err-leave_dir.ensures.descriptor

pub returns-in_err-leave_dir-clause-alone : goal.returns-in_err-leave_dir-clause-alone
returns-in_err-leave_dir-clause-alone g c = c.in_err-leave_dir.ensures.alone

pub returns-in_err-leave_dir-clause-frame : goal.returns-in_err-leave_dir-clause-frame
returns-in_err-leave_dir-clause-frame g c = c.in_err-leave_dir.ensures.frame

pub returns-clause-unrefused : goal.returns-clause-unrefused
returns-clause-unrefused g c = c.enter_file.ensures.unrefused

pub returns-clause-cause : goal.returns-clause-cause
returns-clause-cause g c = cause_sooner (g.D.Tape.tape c.args.disk.now) (g.D.Tape.tape c.leave_dir.new.disk) (g.D.Tape.tape c.enter_file.new.disk) c.enter_file.result c.in_ok-leave_dir.ensures.cause c.enter_file.ensures.cause

pub returns-clause-works : goal.returns-clause-works
returns-clause-works g c = works_twice c.in_ok-leave_dir.ensures.works c.enter_file.ensures.works

pub returns-clause-descriptor : goal.returns-clause-descriptor
returns-clause-descriptor g c = c.enter_file.ensures.descriptor ∙ c.in_ok-leave_dir.ensures.descriptor

pub enter_file-requires-clause-shape : goal.enter_file-requires-clause-shape
enter_file-requires-clause-shape g c = shape_worked (g.D.Tape.tape c.args.disk.now) (g.D.Tape.tape c.leave_dir.new.disk) c.in_ok-leave_dir.ensures.works c.in_ok-leave_dir.ensures.alone c.requires.shape

pub enter_file-requires-clause-sized : goal.enter_file-requires-clause-sized
enter_file-requires-clause-sized g c = sized_worked (g.D.Tape.tape c.args.disk.now) (g.D.Tape.tape c.leave_dir.new.disk) c.in_ok-leave_dir.ensures.works c.in_ok-leave_dir.ensures.alone c.requires.sized
