use Rattle.std.proofs.Common.{Result, [], arith, refl, subst, sym, ◌∷◌}
use Rattle.disk_records.specs.Causes.{HasCause, never}
use Rattle.disk_records.specs.Tapes.{added, pack}
use Rattle.directory.specs.Errors.{cause_of}
use Rattle.directory.specs.declared.errors.DirError.{DirError}
use Rattle.exec_session.specs.laws_call.specs.Acting.{around}
use Rattle.pack_model.specs.operations.Step.Operation.{widen}
use Rattle.exec_session.specs.Meant.{kept}
use Rattle.exec_session.specs.Stops.{stop_entered}
use Rattle.exec_session.specs.declared.stop.Stop.{Stop}
use Rattle.exec_steps.specs.Midway.{StepsOn}
use Rattle.exec_steps.proofs.StepAnswers.{entered_hints, entered_operates, misled_quiet, never_full, entered_cause, entered_unrefused}
use Rattle.exec_steps.proofs.Calling.{hints_step, in_one}
use Rattle.exec_steps.proofs.Frames.{works_called}
use Rattle.exec_session.proofs.Framing.{usable_end_or_free}
use Rattle.exec_steps.proofs.widening.widen_dir.Goals as goal

pub returns-clause-steps : goal.returns-clause-steps
returns-clause-steps g c = λ told stands free.
    let a = g.D.Tape.tape c.args.disk.now in
    let b = g.D.Tape.tape c.widen-widened.new.disk in
    let s = c.args.session.now in
    let dir = c.args.dir.now in
    let e = c.widen-widened.ensures in
    let limit = c.limit_of-limit.ensures in
    subst (λ (r : Result (Unit {0}) Stop). StepsOn a b (kept s) (kept (record s { hints = c.widen-widened.new.hints; tally = c.widen-widened.new.tally })) (widen dir.fid ∷ []) (c.args.fresh ∷ []) (dir.fid ∷ []) r) (sym c.entered.ensures)
    (hints_step a b s c.widen-widened.new.hints c.widen-widened.new.tally (widen dir.fid) (c.args.fresh ∷ []) (dir.fid ∷ []) (stop_entered dir c.widen-widened.result) refl e.alone
    (g.met.D.Disk.counted c.args.disk.now told) (g.met.D.Disk.counted c.widen-widened.new.disk told) (omega (arith, limit))
    (entered_operates {old = around a s.hints.table s.tally} {new = around b c.widen-widened.new.hints.table c.widen-widened.new.tally} dir c.widen-widened.result (e.operates told stands free))
    (entered_hints (pack a) (added a b) dir.fid (dir.fid ∷ []) (in_one dir.fid []) a b dir never never c.widen-widened.result e.cause
    (λ is. subst (λ (r : Result (Unit {0}) DirError). HasCause (cause_of never never never) a b r) is e.cause) (never_full a b c.widen-widened.result e.cause)
    (e.misled told stands free) (misled_quiet (around a s.hints.table s.tally) (around b c.widen-widened.new.hints.table c.widen-widened.new.tally) c.widen-widened.result (e.quiet told stands free))))

pub returns-clause-unrefused : goal.returns-clause-unrefused
returns-clause-unrefused g c = rw c.entered.ensures (entered_unrefused c.args.dir.now c.widen-widened.result)

pub returns-clause-cause : goal.returns-clause-cause
returns-clause-cause g c = rw c.entered.ensures (entered_cause never never never tt tt tt (g.D.Tape.tape c.args.disk.now) (g.D.Tape.tape c.widen-widened.new.disk) c.args.dir.now c.widen-widened.result c.widen-widened.ensures.cause)

pub returns-clause-works : goal.returns-clause-works
returns-clause-works g c = works_called c.args.session.now c.widen-widened.new.hints c.widen-widened.new.tally c.widen-widened.ensures.sized c.widen-widened.ensures.refused

pub returns-clause-descriptor : goal.returns-clause-descriptor
returns-clause-descriptor g c = refl

pub returns-clause-alone : goal.returns-clause-alone
returns-clause-alone g c = c.widen-widened.ensures.alone

pub returns-clause-frame : goal.returns-clause-frame
returns-clause-frame g c = usable_end_or_free c.args.dir.now.fid c.widen-widened.ensures.alone c.widen-widened.ensures.frame
