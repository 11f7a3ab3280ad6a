use Rattle.std.proofs.Common.{Result, [], subst, sym, ◌∷◌, ◌∙◌}
use Rattle.disk_records.proofs.Framing.{usable_twice}
use Rattle.alto_words.specs.Fid.{sys_dir}
use Rattle.disk_records.proofs.Growing.{alone_twice}
use Rattle.exec_session.proofs.Stopping.{error_is}
use Rattle.exec_session.specs.Meant.{kept}
use Rattle.exec_session.specs.declared.stop.Stop.{Stop}
use Rattle.exec_steps.specs.Midway.{StepsOn}
use Rattle.exec_writing.specs.Plans.{renamed}
use Rattle.exec_writing.proofs.Required.{shape_worked, sized_worked}
use Rattle.exec_writing.proofs.Renaming.{pages_stop, rename_ends, title_stops}
use Rattle.exec_session.proofs.Causing.{cause_sooner}
use Rattle.exec_steps.proofs.Frames.{cause_after, cause_passed, never_refused, works_twice}
use Rattle.exec_writing.proofs.rename.rename_entry.Goals as goal

pub returns-in_err-widen_first-clause-steps : goal.returns-in_err-widen_first-clause-steps
returns-in_err-widen_first-clause-steps g c = λ told may.
    let a = g.D.Tape.tape c.args.disk.now in
    let b = g.D.Tape.tape c.widen_first.new.disk in
    let k0 = kept c.args.session.now in
    let k1 = kept c.widen_first.new.session in
    let plan = c.args.plan.now in
    let fresh = c.args.fresh.now in
    subst (λ (r : Result (Unit {0}) Stop). StepsOn a b k0 k1 (renamed plan) fresh (sys_dir ∷ plan.entry.dir.fid ∷ plan.found.file.fid ∷ plan.found.dir.fid ∷ []) r) (sym (error_is c.from_residual.result c.from_residual.ensures.1))
    (pages_stop a k0 plan fresh c.requires.number (Unit {0}) (Unit {0}) b k1 c.in_err-widen_first.field-0.0 (c.in_err-widen_first.ensures.steps told may.widens))

pub returns-in_err-title_file-clause-steps : goal.returns-in_err-title_file-clause-steps
returns-in_err-title_file-clause-steps g c = λ told may.
    let a = g.D.Tape.tape c.args.disk.now in
    let b = g.D.Tape.tape c.widen_first.new.disk in
    let d = g.D.Tape.tape c.title_file.new.disk in
    let k0 = kept c.args.session.now in
    let k1 = kept c.widen_first.new.session in
    let k2 = kept c.title_file.new.session in
    let plan = c.args.plan.now in
    let fresh = c.args.fresh.now in
    subst (λ (r : Result (Unit {0}) Stop). StepsOn a d k0 k2 (renamed plan) fresh (sys_dir ∷ plan.entry.dir.fid ∷ plan.found.file.fid ∷ plan.found.dir.fid ∷ []) r) (sym (error_is c.from_residual-in_err-title_file.result c.from_residual-in_err-title_file.ensures.1))
    (title_stops a k0 plan fresh c.requires.number b k1 c.in_ok-widen_first.field-0 may (c.in_ok-widen_first.ensures.steps told may.widens) (Unit {0}) (Unit {0}) d k2 c.in_err-title_file.field-0.0
    (λ stands. c.in_err-title_file.ensures.steps told stands may.ordinary))

pub returns-in_err-title_file-clause-alone : goal.returns-in_err-title_file-clause-alone
returns-in_err-title_file-clause-alone g c = alone_twice c.widen_first.ensures.alone c.title_file.ensures.alone

pub returns-in_err-title_file-clause-frame : goal.returns-in_err-title_file-clause-frame
returns-in_err-title_file-clause-frame g c = usable_twice c.widen_first.ensures.alone c.title_file.ensures.alone c.widen_first.ensures.frame c.title_file.ensures.frame

pub returns-clause-alone : goal.returns-clause-alone
returns-clause-alone g c = alone_twice c.widen_first.ensures.alone (alone_twice c.title_file.ensures.alone c.change_entry.ensures.alone)

pub returns-clause-frame : goal.returns-clause-frame
returns-clause-frame g c = usable_twice c.widen_first.ensures.alone (alone_twice c.title_file.ensures.alone c.change_entry.ensures.alone) c.widen_first.ensures.frame (usable_twice c.title_file.ensures.alone c.change_entry.ensures.alone c.title_file.ensures.frame c.change_entry.ensures.frame)

pub returns-clause-steps : goal.returns-clause-steps
returns-clause-steps g c = λ told may.
    let a = g.D.Tape.tape c.args.disk.now in
    let b = g.D.Tape.tape c.widen_first.new.disk in
    let d = g.D.Tape.tape c.title_file.new.disk in
    let e = g.D.Tape.tape c.change_entry.new.disk in
    let k0 = kept c.args.session.now in
    let k1 = kept c.widen_first.new.session in
    let k2 = kept c.title_file.new.session in
    rename_ends a k0 c.args.plan.now c.args.fresh.now c.requires.number b k1 c.in_ok-widen_first.field-0 may (c.in_ok-widen_first.ensures.steps told may.widens) (Unit {0}) d e k2 (kept c.change_entry.new.session) c.in_ok-title_file.field-0 c.change_entry.result
    (λ stands. c.in_ok-title_file.ensures.steps told stands may.ordinary) (λ asked. c.change_entry.ensures.steps told asked)

pub returns-in_err-widen_first-clause-unrefused : goal.returns-in_err-widen_first-clause-unrefused
returns-in_err-widen_first-clause-unrefused g c = never_refused (Unit {0}) (λ r. ⊥) c.in_err-widen_first.field-0.0 c.from_residual.result c.from_residual.ensures.1 c.in_err-widen_first.ensures.unrefused

pub returns-in_err-widen_first-clause-cause : goal.returns-in_err-widen_first-clause-cause
returns-in_err-widen_first-clause-cause g c = cause_passed (g.D.Tape.tape c.args.disk.now) (g.D.Tape.tape c.widen_first.new.disk) c.in_err-widen_first.field-0.0 c.from_residual.result c.from_residual.ensures.1 c.in_err-widen_first.ensures.cause

pub returns-in_err-widen_first-clause-works : goal.returns-in_err-widen_first-clause-works
returns-in_err-widen_first-clause-works g c = c.in_err-widen_first.ensures.works

pub returns-in_err-widen_first-clause-descriptor : goal.returns-in_err-widen_first-clause-descriptor
returns-in_err-widen_first-clause-descriptor g c = c.in_err-widen_first.ensures.descriptor

pub returns-in_err-widen_first-clause-alone : goal.returns-in_err-widen_first-clause-alone
returns-in_err-widen_first-clause-alone g c = c.in_err-widen_first.ensures.alone

pub returns-in_err-widen_first-clause-frame : goal.returns-in_err-widen_first-clause-frame
returns-in_err-widen_first-clause-frame g c = c.in_err-widen_first.ensures.frame

pub returns-in_err-title_file-clause-unrefused : goal.returns-in_err-title_file-clause-unrefused
returns-in_err-title_file-clause-unrefused g c = never_refused (Unit {0}) (λ r. ⊥) c.in_err-title_file.field-0.0 c.from_residual-in_err-title_file.result c.from_residual-in_err-title_file.ensures.1 c.in_err-title_file.ensures.unrefused

pub returns-in_err-title_file-clause-cause : goal.returns-in_err-title_file-clause-cause
returns-in_err-title_file-clause-cause g c =
    cause_after (g.D.Tape.tape c.args.disk.now) (g.D.Tape.tape c.widen_first.new.disk) (g.D.Tape.tape c.title_file.new.disk) c.in_err-title_file.field-0.0 c.from_residual-in_err-title_file.result c.from_residual-in_err-title_file.ensures.1 c.in_ok-widen_first.ensures.cause c.in_err-title_file.ensures.cause

pub returns-in_err-title_file-clause-works : goal.returns-in_err-title_file-clause-works
returns-in_err-title_file-clause-works g c = works_twice c.in_ok-widen_first.ensures.works c.in_err-title_file.ensures.works

pub returns-in_err-title_file-clause-descriptor : goal.returns-in_err-title_file-clause-descriptor
returns-in_err-title_file-clause-descriptor g c = c.in_err-title_file.ensures.descriptor ∙ c.in_ok-widen_first.ensures.descriptor

pub returns-clause-unrefused : goal.returns-clause-unrefused
returns-clause-unrefused g c = c.change_entry.ensures.unrefused

pub returns-clause-cause : goal.returns-clause-cause
returns-clause-cause g c =
    cause_sooner (g.D.Tape.tape c.args.disk.now) (g.D.Tape.tape c.title_file.new.disk) (g.D.Tape.tape c.change_entry.new.disk) c.change_entry.result (c.in_ok-title_file.ensures.cause ∙ c.in_ok-widen_first.ensures.cause) c.change_entry.ensures.cause

pub returns-clause-works : goal.returns-clause-works
returns-clause-works g c = works_twice (works_twice c.in_ok-widen_first.ensures.works c.in_ok-title_file.ensures.works) c.change_entry.ensures.works

pub returns-clause-descriptor : goal.returns-clause-descriptor
returns-clause-descriptor g c = c.change_entry.ensures.descriptor ∙ c.in_ok-title_file.ensures.descriptor ∙ c.in_ok-widen_first.ensures.descriptor

pub change_entry-requires-clause-shape : goal.change_entry-requires-clause-shape
change_entry-requires-clause-shape g c =
    let w = c.in_ok-widen_first.ensures in
    let t = c.in_ok-title_file.ensures in
    shape_worked (g.D.Tape.tape c.args.disk.now) (g.D.Tape.tape c.title_file.new.disk) (works_twice w.works t.works) (alone_twice w.alone t.alone) c.requires.shape

pub change_entry-requires-clause-sized : goal.change_entry-requires-clause-sized
change_entry-requires-clause-sized g c =
    let w = c.in_ok-widen_first.ensures in
    let t = c.in_ok-title_file.ensures in
    sized_worked (g.D.Tape.tape c.args.disk.now) (g.D.Tape.tape c.title_file.new.disk) (works_twice w.works t.works) (alone_twice w.alone t.alone) c.requires.sized
