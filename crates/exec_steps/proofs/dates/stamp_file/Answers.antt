use Rattle.std.proofs.Common.{Result, [], arith, refl, subst, sym, ◌∷◌, ap, length}
use Rattle.disk_records.specs.Tapes.{added, pack}
use Rattle.exec_session.specs.laws_call.specs.Acting.{around}
use Rattle.pack_model.specs.operations.Step.Operation.{stamp}
use Rattle.exec_session.specs.Meant.{kept}
use Rattle.exec_session.specs.Stops.{stop_written}
use Rattle.exec_session.specs.declared.stop.Stop.{Stop}
use Rattle.exec_steps.specs.Midway.{StepsOn}
use Rattle.exec_steps.proofs.StepAnswers.{misled_silent, written_hints, written_operates, written_cause, written_unrefused}
use Rattle.exec_steps.proofs.Calling.{hints_step, in_one}
use Rattle.exec_steps.proofs.Frames.{works_called}
use Rattle.exec_session.proofs.Framing.{usable_pages}
use Rattle.exec_steps.proofs.dates.stamp_file.Goals as goal

pub returns-clause-steps : goal.returns-clause-steps
returns-clause-steps g c = λ told is.
    let a = g.D.Tape.tape c.args.disk.now in
    let b = g.D.Tape.tape c.stamp-stamped.new.disk in
    let s = c.args.session.now in
    let file = c.args.file.now in
    let e = c.stamp-stamped.ensures in
    let limit = c.limit_of-limit.ensures in
    subst (λ (r : Result (Unit {0}) Stop). StepsOn a b (kept s) (kept (record s { hints = c.stamp-stamped.new.hints; tally = c.stamp-stamped.new.tally })) (stamp file.fid s.moment ∷ []) [] (file.fid ∷ []) r) (sym c.written.ensures)
    (hints_step a b s c.stamp-stamped.new.hints c.stamp-stamped.new.tally (stamp file.fid s.moment) [] (file.fid ∷ []) (stop_written file c.stamp-stamped.result) refl e.alone
    (g.met.D.Disk.counted c.args.disk.now told) (g.met.D.Disk.counted c.stamp-stamped.new.disk told) (omega (arith, limit))
    (written_operates {old = around a s.hints.table s.tally} {new = around b c.stamp-stamped.new.hints.table c.stamp-stamped.new.tally} file c.stamp-stamped.result (e.operates told is.stands is.ordinary))
    (written_hints (pack a) (added a b) file.fid (file.fid ∷ []) (in_one file.fid []) a b file c.stamp-stamped.result e.cause (e.misled told is.stands) (misled_silent _ c.stamp-stamped.result (e.unwritten told))))

pub returns-clause-unrefused : goal.returns-clause-unrefused
returns-clause-unrefused g c = rw c.written.ensures (written_unrefused c.args.file.now c.stamp-stamped.result)

pub returns-clause-cause : goal.returns-clause-cause
returns-clause-cause g c = rw c.written.ensures (written_cause (g.D.Tape.tape c.args.disk.now) (g.D.Tape.tape c.stamp-stamped.new.disk) c.args.file.now c.stamp-stamped.result c.stamp-stamped.ensures.cause)

pub returns-clause-works : goal.returns-clause-works
returns-clause-works g c = works_called c.args.session.now c.stamp-stamped.new.hints c.stamp-stamped.new.tally (ap length c.stamp-stamped.ensures.table) c.stamp-stamped.ensures.refused

pub returns-clause-descriptor : goal.returns-clause-descriptor
returns-clause-descriptor g c = refl

pub returns-clause-alone : goal.returns-clause-alone
returns-clause-alone g c = c.stamp-stamped.ensures.alone

pub returns-clause-frame : goal.returns-clause-frame
returns-clause-frame g c = usable_pages c.args.file.now.fid c.stamp-stamped.ensures.alone c.stamp-stamped.ensures.frame
