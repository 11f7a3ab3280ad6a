use Rattle.std.proofs.Common.{Result, [], arith, refl, subst, sym, ◌∷◌, ap, length}
use Rattle.disk_records.specs.Causes.{other, never}
use Rattle.disk_records.specs.Tapes.{added, pack}
use Rattle.exec_session.specs.laws_call.specs.Acting.{around}
use Rattle.pack_model.specs.operations.Step.Operation.{enter}
use Rattle.exec_session.specs.Meant.{kept}
use Rattle.exec_session.specs.Stops.{stop_entered}
use Rattle.exec_session.specs.declared.stop.Stop.{Stop}
use Rattle.exec_steps.specs.Midway.{StepsOn}
use Rattle.exec_steps.proofs.StepAnswers.{entered_hints, entered_operates, misled_quiet, roomy, entered_cause, entered_unrefused}
use Rattle.exec_steps.proofs.Calling.{hints_step, in_one}
use Rattle.exec_steps.proofs.Entries.{never_full, never_taken}
use Rattle.exec_steps.proofs.Frames.{works_called}
use Rattle.exec_session.proofs.Framing.{usable_pages}
use Rattle.exec_steps.proofs.making.enter_file.Goals as goal

pub returns-clause-steps : goal.returns-clause-steps
returns-clause-steps g c = λ told may.
    let a = g.D.Tape.tape c.args.disk.now in
    let b = g.D.Tape.tape c.enter-answer.new.disk in
    let s = c.args.session.now in
    let dir = c.args.entry.now.dir in
    let name = c.args.entry.now.name in
    let e = c.enter-answer.ensures in
    let limit = c.limit_of-limit.ensures in
    subst (λ (r : Result (Unit {0}) Stop). StepsOn a b (kept s) (kept (record s { hints = c.enter-answer.new.hints; tally = c.enter-answer.new.tally })) (enter dir.fid name c.args.fid ∷ []) [] (dir.fid ∷ []) r) (sym c.entered.ensures)
    (hints_step a b s c.enter-answer.new.hints c.enter-answer.new.tally (enter dir.fid name c.args.fid) [] (dir.fid ∷ []) (stop_entered dir c.enter-answer.result) refl e.alone
    (g.met.D.Disk.counted c.args.disk.now told) (g.met.D.Disk.counted c.enter-answer.new.disk told) (omega (arith, limit))
    (entered_operates {old = around a s.hints.table s.tally} {new = around b c.enter-answer.new.hints.table c.enter-answer.new.tally} dir c.enter-answer.result (e.operates told may.dir (record { living = may.living; enterable = may.enterable; nameless = may.nameless; leader = may.leader })))
    (entered_hints (pack a) (added a b) dir.fid (dir.fid ∷ []) (in_one dir.fid []) a b dir other other c.enter-answer.result e.cause
    (λ is. never_taken (pack a) dir name may.dir may.absent (e.taken told may.dir is))
    (roomy _ c.enter-answer.result (λ largest full. never_full (pack a) dir name largest may.dir may.stored may.room full) (e.full told may.dir))
    (e.misled told may.dir) (misled_quiet (around a s.hints.table s.tally) (around b c.enter-answer.new.hints.table c.enter-answer.new.tally) c.enter-answer.result (e.quiet told may.dir))))

pub returns-clause-unrefused : goal.returns-clause-unrefused
returns-clause-unrefused g c = rw c.entered.ensures (entered_unrefused c.args.entry.now.dir c.enter-answer.result)

pub returns-clause-cause : goal.returns-clause-cause
returns-clause-cause g c = rw c.entered.ensures (entered_cause never other other tt tt tt (g.D.Tape.tape c.args.disk.now) (g.D.Tape.tape c.enter-answer.new.disk) c.args.entry.now.dir c.enter-answer.result c.enter-answer.ensures.cause)

pub returns-clause-works : goal.returns-clause-works
returns-clause-works g c = works_called c.args.session.now c.enter-answer.new.hints c.enter-answer.new.tally (ap length c.enter-answer.ensures.table) c.enter-answer.ensures.refused

pub returns-clause-descriptor : goal.returns-clause-descriptor
returns-clause-descriptor g c = refl

pub returns-clause-alone : goal.returns-clause-alone
returns-clause-alone g c = c.enter-answer.ensures.alone

pub returns-clause-frame : goal.returns-clause-frame
returns-clause-frame g c = usable_pages c.args.entry.now.dir.fid c.enter-answer.ensures.alone c.enter-answer.ensures.frame
