use Rattle.std.proofs.Common.{Result, [], ap, drop, length, refl, subst, sym, take, ◌∷◌, ◌∙◌, ◌-◌, ℕ}
use Rattle.disk_records.proofs.Framing.{usable_twice}
use Rattle.alto_words.specs.Fid.{sys_dir}
use Rattle.disk_records.proofs.Growing.{alone_twice}
use Rattle.disk_records.specs.Tapes.{pack}
use Rattle.exec_session.specs.Meant.{kept}
use Rattle.exec_steps.specs.Rooms.{one_if, pages_planned}
use Rattle.exec_session.specs.declared.stop.Stop.{Stop}
use Rattle.exec_steps.specs.Asked.{first_widenings}
use Rattle.exec_steps.specs.Midway.{StepsOn}
use Rattle.exec_steps.proofs.StepAnswers.{error_is}
use Rattle.exec_steps.proofs.NewFile.{from_there}
use Rattle.exec_steps.proofs.Widened.{as_number, first_free, widens_both, widens_stop}
use Rattle.exec_session.proofs.Causing.{cause_passed, cause_sooner}
use Rattle.exec_session.proofs.Stopping.{refused_of_stop}
use Rattle.exec_steps.proofs.Frames.{works_twice}
use Rattle.exec_steps.proofs.widening.widen_first.Goals as goal

pub returns-in_err-widen_if-clause-steps : goal.returns-in_err-widen_if-clause-steps
returns-in_err-widen_if-clause-steps g c = λ told may.
    let a = g.D.Tape.tape c.args.disk.now in
    let b = g.D.Tape.tape c.widen_if.new.disk in
    let e = c.args.entry.now in
    let fresh = c.args.fresh.now in
    let k0 = kept c.args.session.now in
    let k1 = kept c.widen_if.new.session in
    subst (λ (r : Result (Unit {0}) Stop). StepsOn a b k0 k1 (first_widenings e) (take (pages_planned e) fresh) (sys_dir ∷ e.dir.fid ∷ []) r) (sym (error_is c.from_residual.result c.from_residual.ensures.1))
    (widens_stop a b k0 k1 e fresh (drop (one_if e.widens_root) fresh) refl (Unit {0}) c.in_err-widen_if.field-0.0
    (c.in_err-widen_if.ensures.steps told may.root (first_free a b k0 k1 e fresh (drop (one_if e.widens_root) fresh) refl (pack a) may)))

pub returns-clause-steps : goal.returns-clause-steps
returns-clause-steps g c = λ told may.
    let a = g.D.Tape.tape c.args.disk.now in
    let b = g.D.Tape.tape c.widen_if.new.disk in
    let e = c.args.entry.now in
    let fresh = c.args.fresh.now in
    let k0 = kept c.args.session.now in
    let k1 = kept c.widen_if.new.session in
    widens_both a b k0 k1 e fresh (take (length fresh - c.from.result) (drop c.from.result fresh)) (from_there c.from.result fresh ∙ ap (λ (n : ℕ). drop n fresh) (c.from.ensures ∙ as_number e.widens_root)) (g.D.Tape.tape c.widen_if-2.new.disk) (kept c.widen_if-2.new.session) c.in_ok-widen_if.field-0 c.widen_if-2.result may
    (c.in_ok-widen_if.ensures.steps told may.root (first_free a b k0 k1 e fresh (drop (one_if e.widens_root) fresh) refl (pack a) may))
    (λ stands free. c.widen_if-2.ensures.steps told stands free)

pub returns-clause-alone : goal.returns-clause-alone
returns-clause-alone g c = alone_twice c.widen_if.ensures.alone c.widen_if-2.ensures.alone

pub returns-clause-frame : goal.returns-clause-frame
returns-clause-frame g c = usable_twice c.widen_if.ensures.alone c.widen_if-2.ensures.alone c.widen_if.ensures.frame c.widen_if-2.ensures.frame

pub returns-in_err-widen_if-clause-unrefused : goal.returns-in_err-widen_if-clause-unrefused
returns-in_err-widen_if-clause-unrefused g c = refused_of_stop (Unit {0}) (λ r. ⊥) (λ r. ⊥) c.in_err-widen_if.field-0.0 c.from_residual.result c.from_residual.ensures.1 (λ r h. h) c.in_err-widen_if.ensures.unrefused

pub returns-in_err-widen_if-clause-cause : goal.returns-in_err-widen_if-clause-cause
returns-in_err-widen_if-clause-cause g c = cause_passed (g.D.Tape.tape c.args.disk.now) (g.D.Tape.tape c.widen_if.new.disk) c.in_err-widen_if.field-0.0 c.from_residual.result c.from_residual.ensures.1 c.in_err-widen_if.ensures.cause

pub returns-in_err-widen_if-clause-works : goal.returns-in_err-widen_if-clause-works
returns-in_err-widen_if-clause-works g c = c.widen_if.ensures.works

pub returns-in_err-widen_if-clause-descriptor : goal.returns-in_err-widen_if-clause-descriptor
returns-in_err-widen_if-clause-descriptor g c = c.widen_if.ensures.descriptor

pub returns-in_err-widen_if-clause-alone : goal.returns-in_err-widen_if-clause-alone
returns-in_err-widen_if-clause-alone g c = c.widen_if.ensures.alone

pub returns-in_err-widen_if-clause-frame : goal.returns-in_err-widen_if-clause-frame
returns-in_err-widen_if-clause-frame g c = c.widen_if.ensures.frame

pub returns-clause-unrefused : goal.returns-clause-unrefused
returns-clause-unrefused g c = c.widen_if-2.ensures.unrefused

pub returns-clause-cause : goal.returns-clause-cause
returns-clause-cause g c = cause_sooner (g.D.Tape.tape c.args.disk.now) (g.D.Tape.tape c.widen_if.new.disk) (g.D.Tape.tape c.widen_if-2.new.disk) c.widen_if-2.result c.in_ok-widen_if.ensures.cause c.widen_if-2.ensures.cause

pub returns-clause-works : goal.returns-clause-works
returns-clause-works g c = works_twice c.widen_if.ensures.works c.widen_if-2.ensures.works

pub returns-clause-descriptor : goal.returns-clause-descriptor
returns-clause-descriptor g c = c.widen_if-2.ensures.descriptor ∙ c.widen_if.ensures.descriptor
