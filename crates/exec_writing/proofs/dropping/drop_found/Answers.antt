use Rattle.std.proofs.Common.{Bool, Contains, Err, List, Result, [], arith, refl, subst, sym, ◌∷◌, ◌∙◌, ap, length}
use Rattle.disk_records.proofs.Framing.{usable_twice}
use Rattle.disk_records.proofs.Growing.{alone_twice}
use Rattle.disk_records.specs.Tapes.{added, pack}
use Rattle.exec_session.specs.laws_call.specs.Acting.{Operates, around}
use Rattle.page_seeking.specs.Refs.{FileStands}
use Rattle.pack_model.specs.hints.Misled.{AnswersMisled}
use Rattle.pack_model.specs.operations.Step.Operation.{drop_file}
use Rattle.exec_session.specs.Meant.{IfHint, kept, IfRefused}
use Rattle.exec_session.specs.Stops.{stop_entered, cause_of_stop}
use Rattle.exec_session.specs.declared.stop.Stop.{Stop}
use Rattle.exec_session.specs.declared.stop.Stop.TheVariants as stop
use Rattle.exec_steps.specs.Midway.{StepsOn}
use Rattle.exec_steps.proofs.StepAnswers.{entered_cause, entered_unrefused, error_is, written_cause, written_unrefused}
use Rattle.exec_steps.proofs.Calling.{hints_step}
use Rattle.exec_writing.proofs.EntryFound.{found_by}
use Rattle.exec_writing.proofs.OneDrop.{dir_left, drop_breaks, drop_ends, file_hints, slot_hints, went, whole_left}
use Rattle.exec_session.proofs.Causing.{cause_sooner}
use Rattle.exec_steps.proofs.Frames.{cause_passed, never_refused}
use Rattle.disk_records.specs.Causes.{HasCause, never, other}
use Rattle.exec_session.proofs.Framing.{usable_pages}
use Rattle.exec_writing.proofs.dropping.drop_found.Goals as goal

pub returns-in_err-written-clause-steps : goal.returns-in_err-written-clause-steps
returns-in_err-written-clause-steps g c = λ told may.
    let a = g.D.Tape.tape c.args.disk.now in
    let b = g.D.Tape.tape c.drop_file-dropped.new.disk in
    let s = c.args.session.now in
    let f = c.args.found.now.file.fid in
    let d = c.args.found.now.dir.fid in
    let whole = may.dir.stands.whole in
    let tidy = may.dir.stands.tidy in
    let dropped = c.drop_file-dropped in
    let e = dropped.ensures in
    let limit = c.limit_of-limit.ensures in
    let y = c.in_err-written.field-0.0 in
    let stands : FileStands (pack a) c.args.found.now.file = record { whole = whole; tidy = tidy; from = may.from } in
    subst (λ (r : Result (Unit {0}) Stop). StepsOn a b (kept s) (kept (record s { hints = dropped.new.hints; tally = dropped.new.tally })) (drop_file f ∷ []) [] (f ∷ d ∷ []) r) (sym (error_is c.from_residual.result c.from_residual.ensures.1))
    (hints_step a b s dropped.new.hints dropped.new.tally (drop_file f) [] (f ∷ d ∷ []) (Err y) refl e.alone
    (g.met.D.Disk.counted c.args.disk.now told) (g.met.D.Disk.counted dropped.new.disk told) (omega (arith, limit))
    (drop_breaks a s.hints.table s.tally f d c.args.found.now.name whole tidy (found_by (pack a) d c.args.found.now.name f whole tidy may.dir.directory may.dir.living may.entered) b dropped.new.hints.table dropped.new.tally c.args.found.now.file dropped.result y c.in_err-written.ensures (e.releases told stands may.may))
    (subst (λ (r : Result (Unit {0}) Stop). IfHint r (λ place at wanted found. Contains (f ∷ d ∷ []) wanted.fid × AnswersMisled (pack a) (added a b) place at wanted found)) (sym c.in_err-written.ensures)
    (file_hints (pack a) (added a b) f d a b c.args.found.now.file dropped.result e.cause (e.misled told stands))))

pub returns-clause-steps : goal.returns-clause-steps
returns-clause-steps g c = λ told may.
    let a = g.D.Tape.tape c.args.disk.now in
    let b = g.D.Tape.tape c.drop_file-dropped.new.disk in
    let e = g.D.Tape.tape c.free_slot-freed.new.disk in
    let s = c.args.session.now in
    let f = c.args.found.now.file.fid in
    let dir = c.args.found.now.dir in
    let d = dir.fid in
    let name = c.args.found.now.name in
    let whole = may.dir.stands.whole in
    let tidy = may.dir.stands.tidy in
    let one = c.drop_file-dropped.ensures in
    let two = c.free_slot-freed.ensures in
    let limit = c.limit_of-limit.ensures in
    let stands : FileStands (pack a) c.args.found.now.file = record { whole = whole; tidy = tidy; from = may.from } in
    let entry = found_by (pack a) d name f whole tidy may.dir.directory may.dir.living may.entered in
    let u = c.drop_file-dropped.new.tally in
    let gone = went a s.hints.table s.tally f d name whole tidy entry b c.drop_file-dropped.new.hints.table u c.args.found.now.file c.in_ok-written.field-0 c.drop_file-dropped.result c.in_ok-written.ensures (one.releases told stands may.may) in
    let left = dir_left a s.hints.table s.tally f d name whole tidy entry b c.drop_file-dropped.new.hints.table u gone one.alone.grown dir refl may.dir in
    let there = whole_left a s.hints.table s.tally f d name whole tidy entry b c.drop_file-dropped.new.hints.table u gone one.alone.grown dir refl may.dir in
    subst (λ (r : Result (Unit {0}) Stop). StepsOn a e (kept s) (kept (record s { hints = c.free_slot-freed.new.hints; tally = u })) (drop_file f ∷ []) [] (f ∷ d ∷ []) r) (sym c.entered.ensures)
    (hints_step a e s c.free_slot-freed.new.hints u (drop_file f) [] (f ∷ d ∷ []) (stop_entered dir c.free_slot-freed.result) refl (alone_twice one.alone two.alone)
    (g.met.D.Disk.counted c.args.disk.now told) (g.met.D.Disk.counted c.free_slot-freed.new.disk told) (omega (arith, limit))
    (subst (λ (bits : List Bool). Operates stop.DiskFault stop.Memory (drop_file f) [] (around a s.hints.table s.tally) (around e bits u) (stop_entered dir c.free_slot-freed.result)) (sym two.table)
    (drop_ends a s.hints.table s.tally f d name whole tidy entry b c.drop_file-dropped.new.hints.table u gone one.alone.grown dir refl may.dir e c.free_slot-freed.result two.alone.grown (two.frees told left)))
    (slot_hints a s.hints.table s.tally f d name whole tidy entry b c.drop_file-dropped.new.hints.table u gone one.alone.grown dir refl may.dir e two.alone.grown c.free_slot-freed.result two.cause (two.absent told there left) (two.misled told left) (two.quiet told)))

pub returns-clause-alone : goal.returns-clause-alone
returns-clause-alone g c = alone_twice c.drop_file-dropped.ensures.alone c.free_slot-freed.ensures.alone

pub returns-clause-frame : goal.returns-clause-frame
returns-clause-frame g c = usable_twice c.drop_file-dropped.ensures.alone c.free_slot-freed.ensures.alone (usable_pages c.args.found.now.file.fid c.drop_file-dropped.ensures.alone c.drop_file-dropped.ensures.frame) (usable_pages c.args.found.now.dir.fid c.free_slot-freed.ensures.alone c.free_slot-freed.ensures.frame)

pub returns-in_err-written-clause-unrefused : goal.returns-in_err-written-clause-unrefused
returns-in_err-written-clause-unrefused g c = never_refused (Unit {0}) (λ r. ⊥) c.in_err-written.field-0.0 c.from_residual.result c.from_residual.ensures.1 (subst (λ (r : Result (Unit {0}) Stop). IfRefused r (λ x. ⊥)) (sym c.in_err-written.ensures) (written_unrefused c.args.found.now.file c.drop_file-dropped.result))

pub returns-in_err-written-clause-cause : goal.returns-in_err-written-clause-cause
returns-in_err-written-clause-cause g c =
    cause_passed (g.D.Tape.tape c.args.disk.now) (g.D.Tape.tape c.drop_file-dropped.new.disk) c.in_err-written.field-0.0 c.from_residual.result c.from_residual.ensures.1 (subst (λ (r : Result (Unit {0}) Stop). HasCause cause_of_stop (g.D.Tape.tape c.args.disk.now) (g.D.Tape.tape c.drop_file-dropped.new.disk) r) (sym c.in_err-written.ensures) (written_cause (g.D.Tape.tape c.args.disk.now) (g.D.Tape.tape c.drop_file-dropped.new.disk) c.args.found.now.file c.drop_file-dropped.result c.drop_file-dropped.ensures.cause))

pub returns-in_err-written-clause-works : goal.returns-in_err-written-clause-works
returns-in_err-written-clause-works g c = let e = c.drop_file-dropped.ensures in record { shape = refl; sized = e.sized; moment = refl; world = refl; streams = refl; need = refl; refused = e.refused }

pub returns-in_err-written-clause-descriptor : goal.returns-in_err-written-clause-descriptor
returns-in_err-written-clause-descriptor g c = refl

pub returns-in_err-written-clause-alone : goal.returns-in_err-written-clause-alone
returns-in_err-written-clause-alone g c = c.drop_file-dropped.ensures.alone

pub returns-in_err-written-clause-frame : goal.returns-in_err-written-clause-frame
returns-in_err-written-clause-frame g c = usable_pages c.args.found.now.file.fid c.drop_file-dropped.ensures.alone c.drop_file-dropped.ensures.frame

pub returns-clause-unrefused : goal.returns-clause-unrefused
returns-clause-unrefused g c = subst (λ (r : Result (Unit {0}) Stop). IfRefused r (λ x. ⊥)) (sym c.entered.ensures) (entered_unrefused c.args.found.now.dir c.free_slot-freed.result)

pub returns-clause-cause : goal.returns-clause-cause
returns-clause-cause g c =
    cause_sooner (g.D.Tape.tape c.args.disk.now) (g.D.Tape.tape c.drop_file-dropped.new.disk) (g.D.Tape.tape c.free_slot-freed.new.disk) c.entered.result
    (subst (λ (r : Result (Unit {0}) Stop). HasCause cause_of_stop (g.D.Tape.tape c.args.disk.now) (g.D.Tape.tape c.drop_file-dropped.new.disk) r) (sym c.in_ok-written.ensures) (written_cause (g.D.Tape.tape c.args.disk.now) (g.D.Tape.tape c.drop_file-dropped.new.disk) c.args.found.now.file c.drop_file-dropped.result c.drop_file-dropped.ensures.cause))
    (subst (λ (r : Result (Unit {0}) Stop). HasCause cause_of_stop (g.D.Tape.tape c.drop_file-dropped.new.disk) (g.D.Tape.tape c.free_slot-freed.new.disk) r) (sym c.entered.ensures) (entered_cause other never never tt tt tt (g.D.Tape.tape c.drop_file-dropped.new.disk) (g.D.Tape.tape c.free_slot-freed.new.disk) c.args.found.now.dir c.free_slot-freed.result c.free_slot-freed.ensures.cause))

pub returns-clause-works : goal.returns-clause-works
returns-clause-works g c =
    let one = c.drop_file-dropped.ensures in
    let two = c.free_slot-freed.ensures in
    let first = one.refused in
    let next = two.refused in
    record { shape = refl; sized = ap length two.table ∙ one.sized; moment = refl; world = refl; streams = refl; need = refl; refused = omega (arith, first, next) }

pub returns-clause-descriptor : goal.returns-clause-descriptor
returns-clause-descriptor g c = refl
