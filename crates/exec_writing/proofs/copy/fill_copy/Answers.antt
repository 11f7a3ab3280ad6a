use Rattle.std.proofs.Common.{Result, ℕ, [], false, true, ◌<◌, ◌==◌, ◌≡◌, ◌∙◌, arith, length, subst, sym, ◌∷◌, refl}
use Rattle.std.proofs.lemmas.Bool.Decides.{nat_tests}
use Rattle.disk_records.proofs.Framing.{usable_here, usable_twice}
use Rattle.disk_records.proofs.Growing.{alone_twice, alone_here}
use Rattle.pack_model.specs.operations.Step.Operation.{stamp}
use Rattle.session_model.specs.Effects.{copied_ops}
use Rattle.exec_session.proofs.Stopping.{error_is}
use Rattle.exec_session.specs.Meant.{kept}
use Rattle.exec_session.specs.declared.stop.Stop.{Stop}
use Rattle.exec_steps.specs.Midway.{StepsOn}
use Rattle.exec_writing.proofs.Required.{shape_worked, sized_worked}
use Rattle.exec_writing.proofs.Copying.{filling_ends, growing_stops, nothing_fills}
use Rattle.exec_session.proofs.Causing.{cause_sooner}
use Rattle.exec_steps.proofs.Frames.{cause_passed, never_refused, works_twice, works_here}
use Rattle.exec_writing.proofs.copy.fill_copy.Goals as goal

is_zero : (n : ℕ) → (n == 0) ≡ true → n ≡ 0
is_zero n h = grind (arith, nat_tests)

is_some : (n : ℕ) → (n == 0) ≡ false → 0 < n
is_some n h = grind (arith, nat_tests)

pub returns-then-is_empty-clause-steps : goal.returns-then-is_empty-clause-steps
returns-then-is_empty-clause-steps g c = λ told may.
    nothing_fills (g.D.Tape.tape c.args.disk.now) (kept c.args.session.now) c.args.file.now c.args.bytes.now c.args.fresh.now c.args.session.now.moment tt (is_zero (length c.args.bytes.now) (sym c.is_empty.ensures ∙ c.if-is_empty.true)) may

pub returns-in_err-grow_file-clause-steps : goal.returns-in_err-grow_file-clause-steps
returns-in_err-grow_file-clause-steps g c = λ told may.
    let a = g.D.Tape.tape c.args.disk.now in
    let b = g.D.Tape.tape c.grow_file.new.disk in
    let s = c.args.session.now in
    let k1 = kept c.grow_file.new.session in
    let file = c.args.file.now in
    let bytes = c.args.bytes.now in
    let fresh = c.args.fresh.now in
    subst (λ (r : Result (Unit {0}) Stop). StepsOn a b (kept s) k1 (copied_ops file.fid bytes s.moment) fresh (file.fid ∷ []) r) (sym (error_is c.from_residual.result c.from_residual.ensures.1))
    (growing_stops a b (kept s) k1 file bytes fresh s.moment (is_some (length bytes) (sym c.is_empty.ensures ∙ c.if-is_empty.false)) may (Unit {0}) (Unit {0}) c.in_err-grow_file.field-0.0 (c.in_err-grow_file.ensures.steps told may))

pub returns-clause-alone : goal.returns-clause-alone
returns-clause-alone g c = alone_twice c.grow_file.ensures.alone c.stamp_file.ensures.alone

pub returns-clause-frame : goal.returns-clause-frame
returns-clause-frame g c = usable_twice c.grow_file.ensures.alone c.stamp_file.ensures.alone c.grow_file.ensures.frame c.stamp_file.ensures.frame

pub returns-clause-steps : goal.returns-clause-steps
returns-clause-steps g c = λ told may.
    let a = g.D.Tape.tape c.args.disk.now in
    let b = g.D.Tape.tape c.grow_file.new.disk in
    let d = g.D.Tape.tape c.stamp_file.new.disk in
    let s = c.args.session.now in
    let k1 = kept c.grow_file.new.session in
    let k2 = kept c.stamp_file.new.session in
    let file = c.args.file.now in
    let bytes = c.args.bytes.now in
    let fresh = c.args.fresh.now in
    filling_ends a b (kept s) k1 file bytes fresh s.moment (is_some (length bytes) (sym c.is_empty.ensures ∙ c.if-is_empty.false)) may d k2 c.in_ok-grow_file.field-0 c.stamp_file.result (c.in_ok-grow_file.ensures.steps told may)
    (λ is. subst (λ (n : ℕ). StepsOn b d k1 k2 (stamp file.fid n ∷ []) [] (file.fid ∷ []) c.stamp_file.result) c.in_ok-grow_file.ensures.works.moment (c.stamp_file.ensures.steps told is))

pub returns-in_err-grow_file-clause-unrefused : goal.returns-in_err-grow_file-clause-unrefused
returns-in_err-grow_file-clause-unrefused g c = never_refused (Unit {0}) (λ r. ⊥) c.in_err-grow_file.field-0.0 c.from_residual.result c.from_residual.ensures.1 c.in_err-grow_file.ensures.unrefused

pub returns-in_err-grow_file-clause-cause : goal.returns-in_err-grow_file-clause-cause
returns-in_err-grow_file-clause-cause g c = cause_passed (g.D.Tape.tape c.args.disk.now) (g.D.Tape.tape c.grow_file.new.disk) c.in_err-grow_file.field-0.0 c.from_residual.result c.from_residual.ensures.1 c.in_err-grow_file.ensures.cause

pub returns-in_err-grow_file-clause-works : goal.returns-in_err-grow_file-clause-works
returns-in_err-grow_file-clause-works g c = c.in_err-grow_file.ensures.works

pub returns-in_err-grow_file-clause-alone : goal.returns-in_err-grow_file-clause-alone
returns-in_err-grow_file-clause-alone g c = c.in_err-grow_file.ensures.alone

pub returns-in_err-grow_file-clause-frame : goal.returns-in_err-grow_file-clause-frame
returns-in_err-grow_file-clause-frame g c = c.in_err-grow_file.ensures.frame

pub returns-clause-unrefused : goal.returns-clause-unrefused
returns-clause-unrefused g c = c.stamp_file.ensures.unrefused

pub returns-clause-cause : goal.returns-clause-cause
returns-clause-cause g c = cause_sooner (g.D.Tape.tape c.args.disk.now) (g.D.Tape.tape c.grow_file.new.disk) (g.D.Tape.tape c.stamp_file.new.disk) c.stamp_file.result c.in_ok-grow_file.ensures.cause c.stamp_file.ensures.cause

pub returns-clause-works : goal.returns-clause-works
returns-clause-works g c = works_twice c.in_ok-grow_file.ensures.works c.stamp_file.ensures.works

pub returns-then-is_empty-clause-unrefused : goal.returns-then-is_empty-clause-unrefused
returns-then-is_empty-clause-unrefused g c = tt

pub returns-then-is_empty-clause-cause : goal.returns-then-is_empty-clause-cause
returns-then-is_empty-clause-cause g c = refl

pub returns-then-is_empty-clause-works : goal.returns-then-is_empty-clause-works
returns-then-is_empty-clause-works g c = works_here c.args.session.now

pub returns-then-is_empty-clause-alone : goal.returns-then-is_empty-clause-alone
returns-then-is_empty-clause-alone g c = alone_here (g.D.Tape.tape c.args.disk.now)

pub returns-then-is_empty-clause-frame : goal.returns-then-is_empty-clause-frame
returns-then-is_empty-clause-frame g c = usable_here (g.D.Tape.tape c.args.disk.now)

pub stamp_file-requires-clause-shape : goal.stamp_file-requires-clause-shape
stamp_file-requires-clause-shape g c = shape_worked (g.D.Tape.tape c.args.disk.now) (g.D.Tape.tape c.grow_file.new.disk) c.in_ok-grow_file.ensures.works c.in_ok-grow_file.ensures.alone c.requires.shape

pub stamp_file-requires-clause-sized : goal.stamp_file-requires-clause-sized
stamp_file-requires-clause-sized g c = sized_worked (g.D.Tape.tape c.args.disk.now) (g.D.Tape.tape c.grow_file.new.disk) c.in_ok-grow_file.ensures.works c.in_ok-grow_file.ensures.alone c.requires.sized
