use Rattle.std.proofs.Common.{List, Result, [], arith, refl, subst, sym, ◌∷◌}
use Rattle.disk_records.specs.Tapes.{added, pack}
use Rattle.exec_session.specs.laws_call.specs.Acting.{around}
use Rattle.pack_model.specs.operations.Step.Operation.{grow}
use Rattle.pack_model.specs.operations.Step.{Operation}
use Rattle.session_model.specs.Streams.{grows}
use Rattle.exec_session.specs.Meant.{kept}
use Rattle.exec_session.specs.Stops.{stop_written}
use Rattle.exec_session.specs.declared.stop.Stop.{Stop}
use Rattle.exec_steps.specs.Midway.{StepsOn}
use Rattle.exec_steps.proofs.StepAnswers.{on_written, quiet_silent, written_hints, written_operates, written_cause, written_unrefused}
use Rattle.exec_steps.proofs.Calling.{hints_step, in_one}
use Rattle.exec_steps.proofs.Grown.{grows_once, may_be_grown, nothing_grows, when_empty, when_some}
use Rattle.exec_steps.proofs.Frames.{works_called}
use Rattle.exec_session.proofs.Framing.{usable_end_or_free}
use Rattle.exec_steps.proofs.growing.grow_file.Goals as goal

pub returns-then-is_empty-clause-steps : goal.returns-then-is_empty-clause-steps
returns-then-is_empty-clause-steps g c = λ told may.
    nothing_grows (g.D.Tape.tape c.args.disk.now) (kept c.args.session.now) c.args.file.now c.args.bytes.now c.args.fresh.now tt (when_empty c.args.bytes.now c.is_empty.result c.is_empty.ensures c.if-is_empty.true) may

pub returns-clause-steps : goal.returns-clause-steps
returns-clause-steps g c = λ told may.
    let a = g.D.Tape.tape c.args.disk.now in
    let b = g.D.Tape.tape c.grow-grown.new.disk in
    let s = c.args.session.now in
    let file = c.args.file.now in
    let bytes = c.args.bytes.now in
    let fresh = c.args.fresh.now in
    let e = c.grow-grown.ensures in
    let limit = c.limit_of-limit.ensures in
    let stands = may.found.stands in
    let grown = may_be_grown (pack a) file bytes fresh may in
    let three = kept (record s { hints = c.grow-grown.new.hints; tally = c.grow-grown.new.tally }) in
    subst (λ (r : Result (Unit {0}) Stop). StepsOn a b (kept s) three (grows file.fid bytes) fresh (file.fid ∷ []) r) (sym c.written.ensures)
    (subst (λ (ops : List Operation). StepsOn a b (kept s) three ops fresh (file.fid ∷ []) (stop_written file c.grow-grown.result)) (sym (grows_once file.fid bytes (when_some bytes c.is_empty.result c.is_empty.ensures c.if-is_empty.false)))
    (hints_step a b s c.grow-grown.new.hints c.grow-grown.new.tally (grow file.fid bytes) fresh (file.fid ∷ []) (stop_written file c.grow-grown.result) refl e.alone
    (g.met.D.Disk.counted c.args.disk.now told) (g.met.D.Disk.counted c.grow-grown.new.disk told) (omega (arith, limit))
    (written_operates {old = around a s.hints.table s.tally} {new = around b c.grow-grown.new.hints.table c.grow-grown.new.tally} file c.grow-grown.result (e.operates (grow file.fid bytes) told stands grown))
    (written_hints (pack a) (added a b) file.fid (file.fid ∷ []) (in_one file.fid []) a b file c.grow-grown.result e.cause (e.misled (grow file.fid bytes) told stands grown)
    (quiet_silent (around a s.hints.table s.tally) (around b c.grow-grown.new.hints.table c.grow-grown.new.tally) c.grow-grown.result (e.quiet (grow file.fid bytes) told stands grown)))))

pub returns-clause-quick : goal.returns-clause-quick
returns-clause-quick g c = λ told may quick named.
    let a = g.D.Tape.tape c.args.disk.now in
    let file = c.args.file.now in
    rw c.written.ensures (on_written _ file c.grow-grown.result (c.grow-grown.ensures.quick (grow file.fid c.args.bytes.now) told may.found.stands (may_be_grown (pack a) file c.args.bytes.now c.args.fresh.now may) quick named))

pub returns-clause-named : goal.returns-clause-named
returns-clause-named g c = λ more told may named.
    let a = g.D.Tape.tape c.args.disk.now in
    let file = c.args.file.now in
    rw c.written.ensures (on_written _ file c.grow-grown.result (c.grow-grown.ensures.named (grow file.fid c.args.bytes.now) more told may.found.stands (may_be_grown (pack a) file c.args.bytes.now c.args.fresh.now may) named))

pub returns-clause-handy : goal.returns-clause-handy
returns-clause-handy g c = λ told may.
    let a = g.D.Tape.tape c.args.disk.now in
    let file = c.args.file.now in
    rw c.written.ensures (on_written _ file c.grow-grown.result (c.grow-grown.ensures.handy (grow file.fid c.args.bytes.now) told may.found.stands (may_be_grown (pack a) file c.args.bytes.now c.args.fresh.now may)))

pub returns-clause-unrefused : goal.returns-clause-unrefused
returns-clause-unrefused g c = rw c.written.ensures (written_unrefused c.args.file.now c.grow-grown.result)

pub returns-clause-cause : goal.returns-clause-cause
returns-clause-cause g c = rw c.written.ensures (written_cause (g.D.Tape.tape c.args.disk.now) (g.D.Tape.tape c.grow-grown.new.disk) c.args.file.now c.grow-grown.result c.grow-grown.ensures.cause)

pub returns-clause-works : goal.returns-clause-works
returns-clause-works g c = works_called c.args.session.now c.grow-grown.new.hints c.grow-grown.new.tally c.grow-grown.ensures.sized c.grow-grown.ensures.refused

pub returns-clause-descriptor : goal.returns-clause-descriptor
returns-clause-descriptor g c = refl

pub returns-clause-alone : goal.returns-clause-alone
returns-clause-alone g c = c.grow-grown.ensures.alone

pub returns-clause-frame : goal.returns-clause-frame
returns-clause-frame g c = usable_end_or_free c.args.file.now.fid c.grow-grown.ensures.alone c.grow-grown.ensures.frame
