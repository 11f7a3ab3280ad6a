use Rattle.std.proofs.Common.{◌≡◌, ℕ, Bool, List, Result, Ok, Err, OnErr, OnOk, refl, true, false, ap, sym, subst, ◌∙◌}
use Rattle.std.specs.Result.{IsErrAnd}
use Rattle.disk_records.proofs.Framing.{usable_here}
use Rattle.disk_records.proofs.Growing.{alone_here}
use Rattle.disk_records.specs.Causes.{IsCause, never}
use Rattle.disk_records.specs.Tapes.{Taped}
use Rattle.disk_records.specs.declared.records.Event.{Event}
use Rattle.disk_descriptor.specs.Answers.{IfHeld, cause_of}
use Rattle.disk_descriptor.specs.Writing.{Writes}
use Rattle.disk_descriptor.specs.declared.errors.DescError.{DescError}
use Rattle.disk_descriptor.specs.declared.errors.DescError.TheVariants as desc
use Rattle.exec_session.specs.Meant.{IfHint, IfRefused}
use Rattle.exec_session.specs.Stops.{stop_of_desc}
use Rattle.exec_session.specs.declared.stop.Stop.{Stop}
use Rattle.exec_session.specs.declared.stop.Stop.TheVariants as stop
use Rattle.exec_session.proofs.Causing.{cause_by_desc, cause_passed}
use Rattle.exec_session.proofs.Stopping.{error_is}
use Rattle.disk_descriptor.proofs.Framing.{usable_own}
use Rattle.exec_session.proofs.end.close.Goals as goal

-- ---- the error of DiskDescriptor's call
memory_of : (e : DescError) → ◌≡◌ {A = Result (Unit {0}) Stop} (Err (stop_of_desc e)) (Err stop.Memory) → e ≡ desc.Memory
memory_of (desc.Spent last) is = cc
memory_of (desc.Held at found) is = cc
memory_of desc.DiskFault is = cc
memory_of desc.Memory is = refl

unrefused : (a b : Taped) (e : DescError) → IsCause a b (cause_of never e) → IfRefused {T = Unit {0}} (Err (stop_of_desc e)) (λ r. ⊥)
unrefused a b (desc.Spent last) h = absurd h
unrefused a b (desc.Held at found) h = tt
unrefused a b desc.DiskFault h = tt
unrefused a b desc.Memory h = tt

unfailing : (e : DescError) → IfHeld {T = Unit {0}} (Err e) (λ at found. ⊥) → IfHint {T = Unit {0}} (Err (stop_of_desc e)) (λ place at wanted found. ⊥)
unfailing (desc.Spent last) h = tt
unfailing (desc.Held at found) h = h
unfailing desc.DiskFault h = tt
unfailing desc.Memory h = tt

writes_passed : (e : DescError) (r : Result (Unit {0}) Stop) (ws : List Event) (most : ℕ) (old new : Taped) → IsErrAnd r (λ x. x ≡ stop_of_desc e) → Writes {T = Unit {0}} desc.Memory ws most old new (Err e) → Writes stop.Memory ws most old new r
writes_passed e r ws most old new is h = subst (Writes {T = Unit {0}} stop.Memory ws most old new) (sym (error_is r is)) (record { some = h.some; ok = tt; want = λ of. h.want (ap Err (memory_of e of)); runs = h.runs })

writes_done : (ws : List Event) (most : ℕ) (old new : Taped) → Writes {T = Unit {0}} desc.Memory ws most old new (Ok tt) → Writes {T = Unit {0}} stop.Memory ws most old new (Ok tt)
writes_done ws most old new h = record { some = h.some; ok = h.ok; want = λ of. absurd (let n : ◌≡◌ {A = Result (Unit {0}) Stop} (Ok tt) (Err stop.Memory) = of in cc); runs = h.runs }

not_done : {U : Type 0} (P : Stop → Type 0) (Q : Type 0) (r : Result U Stop) → IsErrAnd r P → OnOk r Q
not_done P Q (Ok x) is = absurd is
not_done P Q (Err x) is = tt

not_both : (P : Type 0) {b : Bool} → b ≡ true → b ≡ false → P
not_both P on off = let both : true ≡ false = sym on ∙ off in cc

-- ---- a scavenge is needed
pub returns-then-session-clause-in_need : goal.returns-then-session-clause-in_need
returns-then-session-clause-in_need g c = λ need. (tt, refl, refl)

pub returns-then-session-clause-closes : goal.returns-then-session-clause-closes
returns-then-session-clause-closes g c = λ told fits no. not_both _ c.if-session.true no

pub returns-then-session-clause-unfailing : goal.returns-then-session-clause-unfailing
returns-then-session-clause-unfailing g c = λ told fits. tt

pub returns-then-session-clause-unrefused : goal.returns-then-session-clause-unrefused
returns-then-session-clause-unrefused g c = tt

pub returns-then-session-clause-kept : goal.returns-then-session-clause-kept
returns-then-session-clause-kept g c = λ no. not_both _ c.if-session.true no

pub returns-then-session-clause-left : goal.returns-then-session-clause-left
returns-then-session-clause-left g c = tt

pub returns-then-session-clause-cause : goal.returns-then-session-clause-cause
returns-then-session-clause-cause g c = refl

pub returns-then-session-clause-alone : goal.returns-then-session-clause-alone
returns-then-session-clause-alone g c = alone_here (g.D.Tape.tape c.args.disk.now)

pub returns-then-session-clause-frame : goal.returns-then-session-clause-frame
returns-then-session-clause-frame g c = usable_here (g.D.Tape.tape c.args.disk.now)

-- ---- it isn't closed
pub returns-in_err-close_pack-clause-in_need : goal.returns-in_err-close_pack-clause-in_need
returns-in_err-close_pack-clause-in_need g c = λ need. not_both _ need c.if-session.false

pub returns-in_err-close_pack-clause-closes : goal.returns-in_err-close_pack-clause-closes
returns-in_err-close_pack-clause-closes g c = λ told fits no.
    writes_passed c.in_err-close_pack.field-0.0 c.from_residual.result _ _ (g.D.Tape.tape c.args.disk.now) (g.D.Tape.tape c.close_pack.new.disk) c.from_residual.ensures.1 (c.in_err-close_pack.ensures.writes told fits)

pub returns-in_err-close_pack-clause-unfailing : goal.returns-in_err-close_pack-clause-unfailing
returns-in_err-close_pack-clause-unfailing g c = λ told fits.
    subst (λ (r : Result (Unit {0}) Stop). IfHint r (λ place at wanted found. ⊥)) (sym (error_is c.from_residual.result c.from_residual.ensures.1)) (unfailing c.in_err-close_pack.field-0.0 (c.in_err-close_pack.ensures.held told fits))

pub returns-in_err-close_pack-clause-unrefused : goal.returns-in_err-close_pack-clause-unrefused
returns-in_err-close_pack-clause-unrefused g c =
    subst (λ (r : Result (Unit {0}) Stop). IfRefused r (λ x. ⊥)) (sym (error_is c.from_residual.result c.from_residual.ensures.1))
    (unrefused (g.D.Tape.tape c.args.disk.now) (g.D.Tape.tape c.close_pack.new.disk) c.in_err-close_pack.field-0.0 c.in_err-close_pack.ensures.cause)

pub returns-in_err-close_pack-clause-kept : goal.returns-in_err-close_pack-clause-kept
returns-in_err-close_pack-clause-kept g c = λ no. not_done _ _ c.from_residual.result c.from_residual.ensures.1

pub returns-in_err-close_pack-clause-left : goal.returns-in_err-close_pack-clause-left
returns-in_err-close_pack-clause-left g c =
    let s = c.args.session.now in
    subst (λ (r : Result (Unit {0}) Stop). OnErr r (record s { descriptor = c.close_pack.new.self } ≡ s)) (sym (error_is c.from_residual.result c.from_residual.ensures.1))
    (ap (λ d. record s { descriptor = d }) c.in_err-close_pack.ensures.left)

pub returns-in_err-close_pack-clause-cause : goal.returns-in_err-close_pack-clause-cause
returns-in_err-close_pack-clause-cause g c = cause_passed (g.D.Tape.tape c.args.disk.now) (g.D.Tape.tape c.close_pack.new.disk) (stop_of_desc c.in_err-close_pack.field-0.0) c.from_residual.result c.from_residual.ensures.1 (cause_by_desc never tt (g.D.Tape.tape c.args.disk.now) (g.D.Tape.tape c.close_pack.new.disk) c.in_err-close_pack.field-0.0 c.in_err-close_pack.ensures.cause)

pub returns-in_err-close_pack-clause-alone : goal.returns-in_err-close_pack-clause-alone
returns-in_err-close_pack-clause-alone g c = c.in_err-close_pack.ensures.alone

pub returns-in_err-close_pack-clause-frame : goal.returns-in_err-close_pack-clause-frame
returns-in_err-close_pack-clause-frame g c = usable_own c.in_err-close_pack.ensures.guarded

-- ---- it is
pub returns-clause-in_need : goal.returns-clause-in_need
returns-clause-in_need g c = λ need. not_both _ need c.if-session.false

pub returns-clause-closes : goal.returns-clause-closes
returns-clause-closes g c = λ told fits no. writes_done _ _ (g.D.Tape.tape c.args.disk.now) (g.D.Tape.tape c.close_pack.new.disk) (c.in_ok-close_pack.ensures.writes told fits)

pub returns-clause-unfailing : goal.returns-clause-unfailing
returns-clause-unfailing g c = λ told fits. tt

pub returns-clause-unrefused : goal.returns-clause-unrefused
returns-clause-unrefused g c = tt

pub returns-clause-kept : goal.returns-clause-kept
returns-clause-kept g c = λ no. ap (λ d. record c.args.session.now { descriptor = d }) c.in_ok-close_pack.ensures.kept

pub returns-clause-left : goal.returns-clause-left
returns-clause-left g c = tt

pub returns-clause-cause : goal.returns-clause-cause
returns-clause-cause g c = c.in_ok-close_pack.ensures.cause

pub returns-clause-alone : goal.returns-clause-alone
returns-clause-alone g c = c.in_ok-close_pack.ensures.alone

pub returns-clause-frame : goal.returns-clause-frame
returns-clause-frame g c = usable_own c.in_ok-close_pack.ensures.guarded
