use Rattle.std.proofs.Common.{List, Ok, Result, [], arith, refl, subst, sym, ◌∙◌, ◌∷◌}
use Rattle.disk_records.proofs.Framing.{usable_here}
use Rattle.disk_records.specs.Tapes.{added, pack}
use Rattle.exec_session.specs.laws_call.specs.Acting.{around}
use Rattle.pack_model.specs.operations.Step.Operation.{cut}
use Rattle.pack_model.specs.operations.Step.{Operation}
use Rattle.exec_session.specs.Meant.{kept, IfRefused}
use Rattle.exec_session.specs.Stops.{stop_written, cause_of_stop}
use Rattle.exec_session.specs.declared.stop.Stop.{Stop}
use Rattle.exec_steps.specs.Midway.{StepsOn}
use Rattle.exec_steps.proofs.StepAnswers.{written_operates, written_unrefused}
use Rattle.exec_steps.proofs.Calling.{hints_step}
use Rattle.exec_steps.proofs.Joining.{step_of_nothing}
use Rattle.exec_writing.specs.Cutting.{cuts}
use Rattle.exec_writing.proofs.Cutting.{cut_hints, cuts_none, cuts_one}
use Rattle.exec_writing.proofs.Causing.{put_cause}
use Rattle.disk_records.specs.Causes.{HasCause}
use Rattle.exec_steps.proofs.Frames.{works_here}
use Rattle.disk_records.proofs.Growing.{alone_here}
use Rattle.exec_session.proofs.Framing.{usable_pages}
use Rattle.exec_writing.proofs.cut.shorten_file.Goals as goal

pub returns-then-length-found-clause-steps : goal.returns-then-length-found-clause-steps
returns-then-length-found-clause-steps g c = λ told may.
    let a = g.D.Tape.tape c.args.disk.now in
    let s = c.args.session.now in
    let m = c.args.found.now in
    let f = m.file.fid in
    subst (λ (ops : List Operation). StepsOn {T = Unit {0}} a a (kept s) (kept s) ops [] (f ∷ []) (Ok tt)) (sym (cuts_none f m.length c.args.length c.if-length-found.true)) (step_of_nothing a (kept s) (f ∷ []) tt)

pub returns-clause-steps : goal.returns-clause-steps
returns-clause-steps g c = λ told may.
    let a = g.D.Tape.tape c.args.disk.now in
    let b = g.D.Tape.tape c.cut-shortened.new.disk in
    let s = c.args.session.now in
    let m = c.args.found.now in
    let f = m.file.fid in
    let n = c.args.length in
    let e = c.cut-shortened.ensures in
    let limit = c.limit_of-limit.ensures in
    let own = may.length in
    let within = may.within in
    let three = kept (record s { hints = c.cut-shortened.new.hints; tally = c.cut-shortened.new.tally }) in
    subst (λ (r : Result (Unit {0}) Stop). StepsOn a b (kept s) three (cuts f m.length n) [] (f ∷ []) r) (sym c.written.ensures)
    (subst (λ (ops : List Operation). StepsOn a b (kept s) three ops [] (f ∷ []) (stop_written m.file c.cut-shortened.result)) (sym (cuts_one f m.length n c.if-length-found.false))
    (hints_step a b s c.cut-shortened.new.hints c.cut-shortened.new.tally (cut f n) [] (f ∷ []) (stop_written m.file c.cut-shortened.result) refl e.alone
    (g.met.D.Disk.counted c.args.disk.now told) (g.met.D.Disk.counted c.cut-shortened.new.disk told) (omega (arith, limit))
    (written_operates {old = around a s.hints.table s.tally} {new = around b c.cut-shortened.new.hints.table c.cut-shortened.new.tally} m.file c.cut-shortened.result
    (e.operates told may.found.stands may.found.ordinary (λ same. c.if-length-found.false (same ∙ sym own))))
    (cut_hints (pack a) (added a b) m.file n c.cut-shortened.result (omega (arith, own, within)) (e.misled told may.found.stands) (e.beyond told may.found.stands))))

pub returns-clause-unrefused : goal.returns-clause-unrefused
returns-clause-unrefused g c = subst (λ (r : Result (Unit {0}) Stop). IfRefused r (λ x. ⊥)) (sym c.written.ensures) (written_unrefused c.args.found.now.file c.cut-shortened.result)

pub returns-clause-cause : goal.returns-clause-cause
returns-clause-cause g c = subst (λ (r : Result (Unit {0}) Stop). HasCause cause_of_stop (g.D.Tape.tape c.args.disk.now) (g.D.Tape.tape c.cut-shortened.new.disk) r) (sym c.written.ensures) (put_cause (g.D.Tape.tape c.args.disk.now) (g.D.Tape.tape c.cut-shortened.new.disk) c.args.found.now.file c.cut-shortened.result c.cut-shortened.ensures.cause)

pub returns-clause-works : goal.returns-clause-works
returns-clause-works g c = record { shape = refl; sized = c.cut-shortened.ensures.sized; moment = refl; world = refl; streams = refl; need = refl; refused = c.cut-shortened.ensures.refused }

pub returns-clause-descriptor : goal.returns-clause-descriptor
returns-clause-descriptor g c = refl

pub returns-clause-alone : goal.returns-clause-alone
returns-clause-alone g c = c.cut-shortened.ensures.alone

pub returns-clause-frame : goal.returns-clause-frame
returns-clause-frame g c = usable_pages c.args.found.now.file.fid c.cut-shortened.ensures.alone c.cut-shortened.ensures.frame

pub returns-then-length-found-clause-unrefused : goal.returns-then-length-found-clause-unrefused
returns-then-length-found-clause-unrefused g c = tt

pub returns-then-length-found-clause-cause : goal.returns-then-length-found-clause-cause
returns-then-length-found-clause-cause g c = refl

pub returns-then-length-found-clause-works : goal.returns-then-length-found-clause-works
returns-then-length-found-clause-works g c = works_here c.args.session.now

pub returns-then-length-found-clause-descriptor : goal.returns-then-length-found-clause-descriptor
returns-then-length-found-clause-descriptor g c = refl

pub returns-then-length-found-clause-alone : goal.returns-then-length-found-clause-alone
returns-then-length-found-clause-alone g c = alone_here (g.D.Tape.tape c.args.disk.now)

pub returns-then-length-found-clause-frame : goal.returns-then-length-found-clause-frame
returns-then-length-found-clause-frame g c = usable_here (g.D.Tape.tape c.args.disk.now)
