use Rattle.std.proofs.Common.{[], subst, sym, ap, ◌∙◌}
use Rattle.disk_records.proofs.Framing.{usable_twice}
use Rattle.disk_records.specs.Addresses.{pages_of}
use Rattle.disk_records.proofs.Growing.{alone_twice}
use Rattle.exec_session.specs.Meant.{kept, kept_replied, replied}
use Rattle.exec_session.specs.Turned.{Turned}
use Rattle.exec_steps.proofs.StepAnswers.{error_is}
use Rattle.exec_writing.proofs.DropTurn.{dropped, may_drop, may_start, starts_at, undropped, unopened, unsaid}
use Rattle.exec_steps.proofs.Frames.{cause_after, cause_passed, never_refused, works_twice}
use Rattle.exec_session.specs.declared.stop.Stop.TheVariants as stop
use Rattle.exec_writing.proofs.dropping.drop_line.Goals as goal

pub returns-in_err-open_mark-clause-turned : goal.returns-in_err-open_mark-clause-turned
returns-in_err-open_mark-clause-turned g c = λ one s l told begins formed same drops may.
    let a = g.D.Tape.tape c.args.disk.now in
    let b = g.D.Tape.tape c.open_mark.new.disk in
    let s0 = c.args.session.now in
    let s1 = c.open_mark.new.session in
    let found = c.args.found.now in
    let h = c.in_err-open_mark.ensures in
    subst (λ r. Turned a b one (kept_replied r (kept s1)) s l (replied r)) (sym (error_is c.from_residual.result c.from_residual.ensures.1))
    (unopened a one s0 s l found begins same drops may b s1 c.in_err-open_mark.field-0.0 h.alone h.works h.unrefused
    (h.starts one (starts_at a one s0 s l found begins same drops may) [] told (may_start a one s0 s l found begins same drops may)))

pub returns-in_err-drop_found-clause-turned : goal.returns-in_err-drop_found-clause-turned
returns-in_err-drop_found-clause-turned g c = λ one s l told begins formed same drops may.
    let a = g.D.Tape.tape c.args.disk.now in
    let b = g.D.Tape.tape c.open_mark.new.disk in
    let d = g.D.Tape.tape c.drop_found.new.disk in
    let s0 = c.args.session.now in
    let s1 = c.open_mark.new.session in
    let s2 = c.drop_found.new.session in
    let found = c.args.found.now in
    let first = c.in_ok-open_mark.ensures in
    let next = c.in_err-drop_found.ensures in
    let at = starts_at a one s0 s l found begins same drops may in
    let started = first.starts one at [] told (may_start a one s0 s l found begins same drops may) in
    subst (λ r. Turned a d one (kept_replied r (kept s2)) s l (replied r)) (sym (error_is c.from_residual-in_err-drop_found.result c.from_residual-in_err-drop_found.ensures.1))
    (undropped a one s0 s l found begins same drops may b s1 c.in_ok-open_mark.field-0 first.works started d s2 next.works (alone_twice first.alone next.alone) c.in_err-drop_found.field-0.0 next.unrefused
    (next.steps told (may_drop a one s0 s l found begins same drops may b s1 c.in_ok-open_mark.field-0 first.works started)))

pub returns-in_err-done_text-clause-turned : goal.returns-in_err-done_text-clause-turned
returns-in_err-done_text-clause-turned g c = λ one s l told begins formed same drops may.
    let a = g.D.Tape.tape c.args.disk.now in
    let b = g.D.Tape.tape c.open_mark.new.disk in
    let d = g.D.Tape.tape c.drop_found.new.disk in
    let s0 = c.args.session.now in
    let s1 = c.open_mark.new.session in
    let s2 = c.drop_found.new.session in
    let found = c.args.found.now in
    let first = c.in_ok-open_mark.ensures in
    let next = c.in_ok-drop_found.ensures in
    let at = starts_at a one s0 s l found begins same drops may in
    let started = first.starts one at [] told (may_start a one s0 s l found begins same drops may) in
    subst (λ r. Turned a d one (kept_replied r (kept s2)) s l (replied r)) (sym (error_is c.from_residual-in_err-done_text.result c.from_residual-in_err-done_text.ensures.1))
    (unsaid a one s0 s l found begins same drops may b s1 c.in_ok-open_mark.field-0 first.works started d s2 next.works (alone_twice first.alone next.alone) c.in_ok-drop_found.field-0
    (next.steps told (may_drop a one s0 s l found begins same drops may b s1 c.in_ok-open_mark.field-0 first.works started)))

pub returns-clause-turned : goal.returns-clause-turned
returns-clause-turned g c = λ one s l told begins formed same drops may.
    let a = g.D.Tape.tape c.args.disk.now in
    let b = g.D.Tape.tape c.open_mark.new.disk in
    let d = g.D.Tape.tape c.drop_found.new.disk in
    let s0 = c.args.session.now in
    let s1 = c.open_mark.new.session in
    let s2 = c.drop_found.new.session in
    let found = c.args.found.now in
    let first = c.in_ok-open_mark.ensures in
    let next = c.in_ok-drop_found.ensures in
    let at = starts_at a one s0 s l found begins same drops may in
    let started = first.starts one at [] told (may_start a one s0 s l found begins same drops may) in
    dropped a one s0 s l found begins same drops may b s1 c.in_ok-open_mark.field-0 first.works started d s2 next.works (alone_twice first.alone next.alone) c.in_ok-drop_found.field-0
    (next.steps told (may_drop a one s0 s l found begins same drops may b s1 c.in_ok-open_mark.field-0 first.works started)) formed c.in_ok-done_text.field-0.items c.in_ok-done_text.ensures

pub returns-in_err-drop_found-clause-alone : goal.returns-in_err-drop_found-clause-alone
returns-in_err-drop_found-clause-alone g c = alone_twice c.open_mark.ensures.alone c.drop_found.ensures.alone

pub returns-in_err-drop_found-clause-frame : goal.returns-in_err-drop_found-clause-frame
returns-in_err-drop_found-clause-frame g c = usable_twice c.open_mark.ensures.alone c.drop_found.ensures.alone c.open_mark.ensures.frame c.drop_found.ensures.frame

pub returns-in_err-done_text-clause-alone : goal.returns-in_err-done_text-clause-alone
returns-in_err-done_text-clause-alone g c = alone_twice c.open_mark.ensures.alone c.drop_found.ensures.alone

pub returns-in_err-done_text-clause-frame : goal.returns-in_err-done_text-clause-frame
returns-in_err-done_text-clause-frame g c = usable_twice c.open_mark.ensures.alone c.drop_found.ensures.alone c.open_mark.ensures.frame c.drop_found.ensures.frame

pub returns-clause-alone : goal.returns-clause-alone
returns-clause-alone g c = alone_twice c.open_mark.ensures.alone c.drop_found.ensures.alone

pub returns-clause-frame : goal.returns-clause-frame
returns-clause-frame g c = usable_twice c.open_mark.ensures.alone c.drop_found.ensures.alone c.open_mark.ensures.frame c.drop_found.ensures.frame

pub returns-in_err-open_mark-clause-unrefused : goal.returns-in_err-open_mark-clause-unrefused
returns-in_err-open_mark-clause-unrefused g c = never_refused (Unit {0}) (λ r. ⊥) c.in_err-open_mark.field-0.0 c.from_residual.result c.from_residual.ensures.1 c.in_err-open_mark.ensures.unrefused

pub returns-in_err-open_mark-clause-cause : goal.returns-in_err-open_mark-clause-cause
returns-in_err-open_mark-clause-cause g c = cause_passed (g.D.Tape.tape c.args.disk.now) (g.D.Tape.tape c.open_mark.new.disk) c.in_err-open_mark.field-0.0 c.from_residual.result c.from_residual.ensures.1 c.in_err-open_mark.ensures.cause

pub returns-in_err-open_mark-clause-works : goal.returns-in_err-open_mark-clause-works
returns-in_err-open_mark-clause-works g c = c.in_err-open_mark.ensures.works

pub returns-in_err-open_mark-clause-alone : goal.returns-in_err-open_mark-clause-alone
returns-in_err-open_mark-clause-alone g c = c.in_err-open_mark.ensures.alone

pub returns-in_err-open_mark-clause-frame : goal.returns-in_err-open_mark-clause-frame
returns-in_err-open_mark-clause-frame g c = c.in_err-open_mark.ensures.frame

pub returns-in_err-drop_found-clause-unrefused : goal.returns-in_err-drop_found-clause-unrefused
returns-in_err-drop_found-clause-unrefused g c = never_refused (Unit {0}) (λ r. ⊥) c.in_err-drop_found.field-0.0 c.from_residual-in_err-drop_found.result c.from_residual-in_err-drop_found.ensures.1 c.in_err-drop_found.ensures.unrefused

pub returns-in_err-drop_found-clause-cause : goal.returns-in_err-drop_found-clause-cause
returns-in_err-drop_found-clause-cause g c =
    cause_after (g.D.Tape.tape c.args.disk.now) (g.D.Tape.tape c.open_mark.new.disk) (g.D.Tape.tape c.drop_found.new.disk) c.in_err-drop_found.field-0.0 c.from_residual-in_err-drop_found.result c.from_residual-in_err-drop_found.ensures.1 c.in_ok-open_mark.ensures.cause c.in_err-drop_found.ensures.cause

pub returns-in_err-drop_found-clause-works : goal.returns-in_err-drop_found-clause-works
returns-in_err-drop_found-clause-works g c = works_twice c.in_ok-open_mark.ensures.works c.in_err-drop_found.ensures.works

pub returns-in_err-done_text-clause-unrefused : goal.returns-in_err-done_text-clause-unrefused
returns-in_err-done_text-clause-unrefused g c = never_refused (Unit {0}) (λ r. ⊥) stop.Memory c.from_residual-in_err-done_text.result c.from_residual-in_err-done_text.ensures.1 tt

pub returns-in_err-done_text-clause-cause : goal.returns-in_err-done_text-clause-cause
returns-in_err-done_text-clause-cause g c = cause_passed (g.D.Tape.tape c.args.disk.now) (g.D.Tape.tape c.drop_found.new.disk) stop.Memory c.from_residual-in_err-done_text.result c.from_residual-in_err-done_text.ensures.1 (c.in_ok-drop_found.ensures.cause ∙ c.in_ok-open_mark.ensures.cause)

pub returns-in_err-done_text-clause-works : goal.returns-in_err-done_text-clause-works
returns-in_err-done_text-clause-works g c = works_twice c.in_ok-open_mark.ensures.works c.in_ok-drop_found.ensures.works

pub returns-clause-unrefused : goal.returns-clause-unrefused
returns-clause-unrefused g c = tt

pub returns-clause-cause : goal.returns-clause-cause
returns-clause-cause g c = c.in_ok-drop_found.ensures.cause ∙ c.in_ok-open_mark.ensures.cause

pub returns-clause-works : goal.returns-clause-works
returns-clause-works g c = works_twice c.in_ok-open_mark.ensures.works c.in_ok-drop_found.ensures.works

pub drop_found-requires-clause-shape : goal.drop_found-requires-clause-shape
drop_found-requires-clause-shape g c = c.in_ok-open_mark.ensures.works.shape ∙ c.requires.shape ∙ sym c.in_ok-open_mark.ensures.alone.grown.form

pub drop_found-requires-clause-sized : goal.drop_found-requires-clause-sized
drop_found-requires-clause-sized g c = c.in_ok-open_mark.ensures.works.sized ∙ c.requires.sized ∙ ap pages_of (sym c.in_ok-open_mark.ensures.alone.grown.form)
