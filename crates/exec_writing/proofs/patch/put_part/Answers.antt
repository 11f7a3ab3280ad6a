use Rattle.std.proofs.Common.{◌+◌, ◌-◌, ◌%◌, ◌∷◌, List, Ok, Err, Result, [], ℕ, arith, inl, length, refl, subst, sym, take, ◌≡◌, ap}
use Rattle.std.proofs.lemmas.List.{length-take}
use Rattle.disk_records.specs.Tapes.{added, pack}
use Rattle.exec_session.specs.laws_call.specs.Acting.{around}
use Rattle.pack_model.specs.operations.Step.Operation.{put}
use Rattle.exec_session.specs.Meant.{kept, IfRefused}
use Rattle.exec_session.specs.Stops.{stop_written, cause_of_stop}
use Rattle.exec_session.specs.declared.stop.Stop.{Stop}
use Rattle.exec_session.proofs.Stopping.{error_is}
use Rattle.exec_steps.specs.Midway.{StepsOn}
use Rattle.exec_steps.proofs.StepAnswers.{misled_silent, written_operates, written_unrefused}
use Rattle.exec_steps.proofs.Calling.{hints_step}
use Rattle.exec_steps.proofs.Joining.{steps_err, steps_ok}
use Rattle.exec_writing.proofs.Putting.{part_is, put_hints}
use Rattle.exec_session.proofs.Parts.{ok_of_error}
use Rattle.exec_writing.proofs.Causing.{put_cause}
use Rattle.exec_steps.proofs.Frames.{cause_passed, never_refused}
use Rattle.disk_records.specs.Causes.{HasCause}
use Rattle.exec_session.proofs.Framing.{usable_pages}
use Rattle.exec_writing.proofs.patch.put_part.Goals as goal

pub returns-in_err-written-clause-steps : goal.returns-in_err-written-clause-steps
returns-in_err-written-clause-steps g c = λ told may.
    let a = g.D.Tape.tape c.args.disk.now in
    let b = g.D.Tape.tape c.put-done.new.disk in
    let s = c.args.session.now in
    let file = c.args.file.now in
    let f = file.fid in
    let bytes = c.args.bytes.now in
    let n = c.min-count.result in
    let r = 512 - c.args.offset % 512 in
    let e = c.put-done.ensures in
    let limit = c.limit_of-limit.ensures in
    let within = may.within in
    let taken = length-take n bytes in
    let three = kept (record s { hints = c.put-done.new.hints; tally = c.put-done.new.tally }) in
    let o = put f c.args.offset (take n bytes) in
    subst (λ (x : Result ℕ Stop). StepsOn a b (kept s) three (put f c.args.offset (take r bytes) ∷ []) [] (f ∷ []) x) (sym (error_is c.from_residual.result c.from_residual.ensures.1))
    (subst (λ (l : List ℕ). StepsOn {T = ℕ} a b (kept s) three (put f c.args.offset l ∷ []) [] (f ∷ []) (Err c.in_err-written.field-0.0)) (part_is n r bytes c.min-count.ensures)
    (steps_err ℕ (Unit {0}) a b (kept s) three (o ∷ []) [] (f ∷ []) c.in_err-written.field-0.0
    (subst (λ (x : Result (Unit {0}) Stop). StepsOn a b (kept s) three (o ∷ []) [] (f ∷ []) x) (sym c.in_err-written.ensures)
    (hints_step a b s c.put-done.new.hints c.put-done.new.tally o [] (f ∷ []) (stop_written file c.put-done.result) refl e.alone
    (g.met.D.Disk.counted c.args.disk.now told) (g.met.D.Disk.counted c.put-done.new.disk told) (omega (arith, limit))
    (written_operates {old = around a s.hints.table s.tally} {new = around b c.put-done.new.hints.table c.put-done.new.tally} file c.put-done.result (e.operates told may.found.stands may.found.ordinary (record { last = inl refl })))
    (put_hints (pack a) (added a b) file (c.args.offset + length (take n bytes)) (around a s.hints.table s.tally) (around b c.put-done.new.hints.table c.put-done.new.tally) c.put-done.result (omega (arith, within, taken))
    (e.misled told may.found.stands) (misled_silent _ c.put-done.result (e.unwritten told)) (e.beyond told may.found.stands.whole))))))

pub returns-clause-steps : goal.returns-clause-steps
returns-clause-steps g c = λ told may.
    let a = g.D.Tape.tape c.args.disk.now in
    let b = g.D.Tape.tape c.put-done.new.disk in
    let s = c.args.session.now in
    let file = c.args.file.now in
    let f = file.fid in
    let bytes = c.args.bytes.now in
    let n = c.min-count.result in
    let r = 512 - c.args.offset % 512 in
    let e = c.put-done.ensures in
    let limit = c.limit_of-limit.ensures in
    let within = may.within in
    let taken = length-take n bytes in
    let three = kept (record s { hints = c.put-done.new.hints; tally = c.put-done.new.tally }) in
    let o = put f c.args.offset (take n bytes) in
    subst (λ (l : List ℕ). StepsOn a b (kept s) three (put f c.args.offset l ∷ []) [] (f ∷ []) (Ok n)) (part_is n r bytes c.min-count.ensures)
    (steps_ok ℕ (Unit {0}) a b (kept s) three (o ∷ []) [] (f ∷ []) c.in_ok-written.field-0 n
    (subst (λ (x : Result (Unit {0}) Stop). StepsOn a b (kept s) three (o ∷ []) [] (f ∷ []) x) (sym c.in_ok-written.ensures)
    (hints_step a b s c.put-done.new.hints c.put-done.new.tally o [] (f ∷ []) (stop_written file c.put-done.result) refl e.alone
    (g.met.D.Disk.counted c.args.disk.now told) (g.met.D.Disk.counted c.put-done.new.disk told) (omega (arith, limit))
    (written_operates {old = around a s.hints.table s.tally} {new = around b c.put-done.new.hints.table c.put-done.new.tally} file c.put-done.result (e.operates told may.found.stands may.found.ordinary (record { last = inl refl })))
    (put_hints (pack a) (added a b) file (c.args.offset + length (take n bytes)) (around a s.hints.table s.tally) (around b c.put-done.new.hints.table c.put-done.new.tally) c.put-done.result (omega (arith, within, taken))
    (e.misled told may.found.stands) (misled_silent _ c.put-done.result (e.unwritten told)) (e.beyond told may.found.stands.whole)))))

pub returns-in_err-written-clause-many : goal.returns-in_err-written-clause-many
returns-in_err-written-clause-many g c = ok_of_error (λ s. s ≡ c.in_err-written.field-0.0) _ c.from_residual.result c.from_residual.ensures.1

pub returns-in_err-written-clause-unrefused : goal.returns-in_err-written-clause-unrefused
returns-in_err-written-clause-unrefused g c = never_refused (Unit {0}) (λ r. ⊥) c.in_err-written.field-0.0 c.from_residual.result c.from_residual.ensures.1 (subst (λ (r : Result (Unit {0}) Stop). IfRefused r (λ x. ⊥)) (sym c.in_err-written.ensures) (written_unrefused c.args.file.now c.put-done.result))

pub returns-in_err-written-clause-cause : goal.returns-in_err-written-clause-cause
returns-in_err-written-clause-cause g c =
    cause_passed (g.D.Tape.tape c.args.disk.now) (g.D.Tape.tape c.put-done.new.disk) c.in_err-written.field-0.0 c.from_residual.result c.from_residual.ensures.1 (subst (λ (r : Result (Unit {0}) Stop). HasCause cause_of_stop (g.D.Tape.tape c.args.disk.now) (g.D.Tape.tape c.put-done.new.disk) r) (sym c.in_err-written.ensures) (put_cause (g.D.Tape.tape c.args.disk.now) (g.D.Tape.tape c.put-done.new.disk) c.args.file.now c.put-done.result c.put-done.ensures.cause))

pub returns-in_err-written-clause-works : goal.returns-in_err-written-clause-works
returns-in_err-written-clause-works g c = let e = c.put-done.ensures in record { shape = refl; sized = ap length e.table; moment = refl; world = refl; streams = refl; need = refl; refused = e.refused }

pub returns-in_err-written-clause-descriptor : goal.returns-in_err-written-clause-descriptor
returns-in_err-written-clause-descriptor g c = refl

pub returns-in_err-written-clause-alone : goal.returns-in_err-written-clause-alone
returns-in_err-written-clause-alone g c = c.put-done.ensures.alone

pub returns-in_err-written-clause-frame : goal.returns-in_err-written-clause-frame
returns-in_err-written-clause-frame g c = usable_pages c.args.file.now.fid c.put-done.ensures.alone c.put-done.ensures.frame

pub returns-clause-unrefused : goal.returns-clause-unrefused
returns-clause-unrefused g c = tt

pub returns-clause-cause : goal.returns-clause-cause
returns-clause-cause g c = subst (λ (r : Result (Unit {0}) Stop). HasCause cause_of_stop (g.D.Tape.tape c.args.disk.now) (g.D.Tape.tape c.put-done.new.disk) r) (sym c.in_ok-written.ensures) (put_cause (g.D.Tape.tape c.args.disk.now) (g.D.Tape.tape c.put-done.new.disk) c.args.file.now c.put-done.result c.put-done.ensures.cause)

pub returns-clause-works : goal.returns-clause-works
returns-clause-works g c = let e = c.put-done.ensures in record { shape = refl; sized = ap length e.table; moment = refl; world = refl; streams = refl; need = refl; refused = e.refused }

pub returns-clause-descriptor : goal.returns-clause-descriptor
returns-clause-descriptor g c = refl

pub returns-clause-alone : goal.returns-clause-alone
returns-clause-alone g c = c.put-done.ensures.alone

pub returns-clause-frame : goal.returns-clause-frame
returns-clause-frame g c = usable_pages c.args.file.now.fid c.put-done.ensures.alone c.put-done.ensures.frame

pub returns-clause-many : goal.returns-clause-many
returns-clause-many g c = c.min-count.ensures
