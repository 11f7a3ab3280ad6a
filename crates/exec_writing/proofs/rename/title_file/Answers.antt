use Rattle.std.proofs.Common.{Result, [], arith, refl, subst, sym, ◌∷◌, ap, length}
use Rattle.disk_records.specs.Tapes.{added, pack}
use Rattle.exec_session.specs.laws_call.specs.Acting.{around}
use Rattle.pack_model.specs.operations.Step.Operation.{title}
use Rattle.exec_session.specs.Meant.{kept, IfRefused}
use Rattle.exec_session.specs.Stops.{stop_written, cause_of_stop}
use Rattle.exec_session.specs.declared.stop.Stop.{Stop}
use Rattle.exec_steps.specs.Midway.{StepsOn}
use Rattle.exec_steps.proofs.StepAnswers.{misled_silent, written_cause, written_hints, written_operates, written_unrefused}
use Rattle.exec_steps.proofs.Calling.{hints_step, in_one}
use Rattle.disk_records.specs.Causes.{HasCause}
use Rattle.exec_session.proofs.Framing.{usable_pages}
use Rattle.exec_writing.proofs.rename.title_file.Goals as goal

pub returns-clause-steps : goal.returns-clause-steps
returns-clause-steps g c = λ told stands ordinary.
    let a = g.D.Tape.tape c.args.disk.now in
    let b = g.D.Tape.tape c.title-titled.new.disk in
    let s = c.args.session.now in
    let file = c.args.plan.now.found.file in
    let name = c.args.plan.now.entry.name in
    let e = c.title-titled.ensures in
    let limit = c.limit_of-limit.ensures in
    subst (λ (r : Result (Unit {0}) Stop). StepsOn a b (kept s) (kept (record s { hints = c.title-titled.new.hints; tally = c.title-titled.new.tally })) (title file.fid name ∷ []) [] (file.fid ∷ []) r) (sym c.written.ensures)
    (hints_step a b s c.title-titled.new.hints c.title-titled.new.tally (title file.fid name) [] (file.fid ∷ []) (stop_written file c.title-titled.result) refl e.alone
    (g.met.D.Disk.counted c.args.disk.now told) (g.met.D.Disk.counted c.title-titled.new.disk told) (omega (arith, limit))
    (written_operates {old = around a s.hints.table s.tally} {new = around b c.title-titled.new.hints.table c.title-titled.new.tally} file c.title-titled.result (e.operates told stands ordinary))
    (written_hints (pack a) (added a b) file.fid (file.fid ∷ []) (in_one file.fid []) a b file c.title-titled.result e.cause (e.misled told stands) (misled_silent _ c.title-titled.result (e.unwritten told))))

pub returns-clause-unrefused : goal.returns-clause-unrefused
returns-clause-unrefused g c = subst (λ (r : Result (Unit {0}) Stop). IfRefused r (λ x. ⊥)) (sym c.written.ensures) (written_unrefused c.args.plan.now.found.file c.title-titled.result)

pub returns-clause-cause : goal.returns-clause-cause
returns-clause-cause g c = subst (λ (r : Result (Unit {0}) Stop). HasCause cause_of_stop (g.D.Tape.tape c.args.disk.now) (g.D.Tape.tape c.title-titled.new.disk) r) (sym c.written.ensures) (written_cause (g.D.Tape.tape c.args.disk.now) (g.D.Tape.tape c.title-titled.new.disk) c.args.plan.now.found.file c.title-titled.result c.title-titled.ensures.cause)

pub returns-clause-works : goal.returns-clause-works
returns-clause-works g c = record { shape = refl; sized = ap length c.title-titled.ensures.table; moment = refl; world = refl; streams = refl; need = refl; refused = c.title-titled.ensures.refused }

pub returns-clause-descriptor : goal.returns-clause-descriptor
returns-clause-descriptor g c = refl

pub returns-clause-alone : goal.returns-clause-alone
returns-clause-alone g c = c.title-titled.ensures.alone

pub returns-clause-frame : goal.returns-clause-frame
returns-clause-frame g c = usable_pages c.args.plan.now.found.file.fid c.title-titled.ensures.alone c.title-titled.ensures.frame
