use Rattle.std.proofs.Common.{Result, [], arith, refl, subst, sym, ◌∷◌, ap, length}
use Rattle.disk_records.specs.Causes.{other, HasCause, never}
use Rattle.disk_records.specs.Tapes.{added, pack}
use Rattle.exec_session.specs.laws_call.specs.Acting.{around}
use Rattle.pack_model.specs.operations.Step.Operation.{leave}
use Rattle.exec_session.specs.Meant.{kept, IfRefused}
use Rattle.exec_session.specs.Stops.{stop_entered, cause_of_stop}
use Rattle.exec_session.specs.declared.stop.Stop.{Stop}
use Rattle.exec_steps.specs.Midway.{StepsOn}
use Rattle.exec_steps.proofs.StepAnswers.{entered_cause, entered_hints, entered_operates, entered_unrefused, misled_quiet}
use Rattle.exec_steps.proofs.Calling.{hints_step, in_one}
use Rattle.exec_writing.proofs.Leaving.{leaving_cause, leaving_roomy, leaving_untaken, never_absent, ordinary_entry}
use Rattle.exec_session.proofs.Framing.{usable_pages}
use Rattle.exec_writing.proofs.rename.leave_dir.Goals as goal

pub returns-clause-steps : goal.returns-clause-steps
returns-clause-steps g c = λ told may.
    let a = g.D.Tape.tape c.args.disk.now in
    let b = g.D.Tape.tape c.leave-left.new.disk in
    let s = c.args.session.now in
    let found = c.args.found.now in
    let dir = found.dir in
    let e = c.leave-left.ensures in
    let limit = c.limit_of-limit.ensures in
    subst (λ (r : Result (Unit {0}) Stop). StepsOn a b (kept s) (kept (record s { hints = c.leave-left.new.hints; tally = c.leave-left.new.tally })) (leave dir.fid found.name ∷ []) [] (dir.fid ∷ []) r) (sym c.entered.ensures)
    (hints_step a b s c.leave-left.new.hints c.leave-left.new.tally (leave dir.fid found.name) [] (dir.fid ∷ []) (stop_entered dir c.leave-left.result) refl e.alone
    (g.met.D.Disk.counted c.args.disk.now told) (g.met.D.Disk.counted c.leave-left.new.disk told) (omega (arith, limit))
    (entered_operates {old = around a s.hints.table s.tally} {new = around b c.leave-left.new.hints.table c.leave-left.new.tally} dir c.leave-left.result (e.operates told may.dir (ordinary_entry (pack a) found may)))
    (entered_hints (pack a) (added a b) dir.fid (dir.fid ∷ []) (in_one dir.fid []) a b dir other other c.leave-left.result
    (leaving_cause a b c.leave-left.result e.cause (λ is. never_absent (pack a) found may (e.absent told may.dir is)))
    (leaving_untaken a b c.leave-left.result e.cause) (leaving_roomy a b c.leave-left.result e.cause)
    (e.misled told may.dir) (misled_quiet (around a s.hints.table s.tally) (around b c.leave-left.new.hints.table c.leave-left.new.tally) c.leave-left.result (e.quiet told))))

pub returns-clause-unrefused : goal.returns-clause-unrefused
returns-clause-unrefused g c = subst (λ (r : Result (Unit {0}) Stop). IfRefused r (λ x. ⊥)) (sym c.entered.ensures) (entered_unrefused c.args.found.now.dir c.leave-left.result)

pub returns-clause-cause : goal.returns-clause-cause
returns-clause-cause g c = subst (λ (r : Result (Unit {0}) Stop). HasCause cause_of_stop (g.D.Tape.tape c.args.disk.now) (g.D.Tape.tape c.leave-left.new.disk) r) (sym c.entered.ensures) (entered_cause other never never tt tt tt (g.D.Tape.tape c.args.disk.now) (g.D.Tape.tape c.leave-left.new.disk) c.args.found.now.dir c.leave-left.result c.leave-left.ensures.cause)

pub returns-clause-works : goal.returns-clause-works
returns-clause-works g c = record { shape = refl; sized = ap length c.leave-left.ensures.table; moment = refl; world = refl; streams = refl; need = refl; refused = c.leave-left.ensures.refused }

pub returns-clause-descriptor : goal.returns-clause-descriptor
returns-clause-descriptor g c = refl

pub returns-clause-alone : goal.returns-clause-alone
returns-clause-alone g c = c.leave-left.ensures.alone

pub returns-clause-frame : goal.returns-clause-frame
returns-clause-frame g c = usable_pages c.args.found.now.dir.fid c.leave-left.ensures.alone c.leave-left.ensures.frame
