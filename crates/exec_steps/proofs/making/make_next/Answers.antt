use Rattle.std.proofs.Common.{Result, [], ap, arith, subst, sym, take, ◌∷◌, ◌+◌, ◌∙◌, ℕ}
use Rattle.disk_records.proofs.Framing.{usable_twice}
use Rattle.alto_words.specs.declared.fid.Fid.{Fid}
use Rattle.disk_descriptor.specs.Fields.{with_last}
use Rattle.disk_records.proofs.Growing.{alone_twice}
use Rattle.disk_records.specs.Tapes.{pack}
use Rattle.page_seeking.specs.declared.refs.FileRef.{FileRef}
use Rattle.pack_model.specs.operations.Step.Operation.{make}
use Rattle.pack_model.specs.reading.Files.{place}
use Rattle.pack_model.specs.reading.Sights.{sights}
use Rattle.exec_session.specs.Meant.{IfRefused, kept}
use Rattle.exec_session.specs.declared.stop.Stop.{Stop}
use Rattle.exec_steps.specs.Asked.{made_fid}
use Rattle.exec_steps.specs.Midway.{StepsOn}
use Rattle.exec_steps.proofs.StepAnswers.{desc_unrefused, error_is, was_written, written_cause, written_unrefused}
use Rattle.exec_steps.proofs.Joining.{steps_err, steps_ok}
use Rattle.exec_steps.proofs.NextFile.{asked_of_make, made_next, serial_stops}
use Rattle.exec_session.proofs.Causing.{cause_after, cause_by_desc, cause_passed}
use Rattle.exec_session.specs.Stops.{cause_of_stop, stop_of_desc}
use Rattle.disk_records.specs.Causes.{HasCause, other}
use Rattle.exec_session.proofs.Stopping.{refused_of_stop}
use Rattle.exec_session.proofs.Parts.{ok_of_error}
use Rattle.exec_session.proofs.Framing.{usable_free}
use Rattle.disk_descriptor.proofs.Framing.{usable_own}
use Rattle.exec_steps.proofs.making.make_next.Goals as goal

pub returns-in_err-serial-clause-unrefused : goal.returns-in_err-serial-clause-unrefused
returns-in_err-serial-clause-unrefused g c =
    subst (λ (r : Result FileRef Stop). IfRefused r (λ x. ⊥)) (sym (error_is c.from_residual.result c.from_residual.ensures.1)) (desc_unrefused FileRef ℕ c.in_err-serial.field-0.0 c.args.session.now.descriptor.last c.requires.left c.in_err-serial.ensures.spent)

pub returns-in_err-serial-clause-steps : goal.returns-in_err-serial-clause-steps
returns-in_err-serial-clause-steps g c = λ told may.
    let a = g.D.Tape.tape c.args.disk.now in
    let b = g.D.Tape.tape c.next_serial.new.disk in
    let s = c.args.session.now in
    let x = c.in_err-serial.field-0.0 in
    let e = c.in_err-serial.ensures in
    subst (λ (r : Result FileRef Stop). StepsOn a b (kept s) (kept (record s { descriptor = c.next_serial.new.self })) (make (made_fid c.args.of_directory (s.descriptor.last + 1)) c.args.entry.now.name s.moment ∷ []) (take 2 c.args.fresh.now) [] r) (sym (error_is c.from_residual.result c.from_residual.ensures.1))
    (serial_stops a b s c.next_serial.new.self c.args.of_directory c.args.entry.now.name c.args.fresh.now c.requires.many may e.alone FileRef ℕ x (e.gives told may.fits) (e.held told may.fits))

pub returns-in_err-written-clause-alone : goal.returns-in_err-written-clause-alone
returns-in_err-written-clause-alone g c = alone_twice c.next_serial.ensures.alone c.make-made.ensures.alone

pub returns-in_err-written-clause-frame : goal.returns-in_err-written-clause-frame
returns-in_err-written-clause-frame g c = usable_twice c.next_serial.ensures.alone c.make-made.ensures.alone (usable_own c.next_serial.ensures.guarded) (usable_free c.make-made.ensures.alone c.make-made.ensures.frame)

pub returns-clause-alone : goal.returns-clause-alone
returns-clause-alone g c = alone_twice c.next_serial.ensures.alone c.make-made.ensures.alone

pub returns-clause-frame : goal.returns-clause-frame
returns-clause-frame g c = usable_twice c.next_serial.ensures.alone c.make-made.ensures.alone (usable_own c.next_serial.ensures.guarded) (usable_free c.make-made.ensures.alone c.make-made.ensures.frame)

pub returns-in_err-written-clause-steps : goal.returns-in_err-written-clause-steps
returns-in_err-written-clause-steps g c = λ told may.
    let a = g.D.Tape.tape c.args.disk.now in
    let b = g.D.Tape.tape c.next_serial.new.disk in
    let d = g.D.Tape.tape c.make-made.new.disk in
    let s = c.args.session.now in
    let e = c.in_ok-serial.ensures in
    let made = c.make-made.ensures in
    let limit = c.limit_of-limit.ensures in
    let two = record s { descriptor = c.next_serial.new.self; hints = c.make-made.new.hints; tally = c.make-made.new.tally } in
    let ops = make (made_fid c.args.of_directory (s.descriptor.last + 1)) c.args.entry.now.name s.moment ∷ [] in
    subst (λ (r : Result FileRef Stop). StepsOn a d (kept s) (kept two) ops (take 2 c.args.fresh.now) [] r) (sym (error_is c.from_residual-in_err-written.result c.from_residual-in_err-written.ensures.1))
    (steps_err FileRef (Unit {0}) a d (kept s) (kept two) ops (take 2 c.args.fresh.now) [] c.in_err-written.field-0.0
    (subst (λ (r : Result (Unit {0}) Stop). StepsOn a d (kept s) (kept two) ops (take 2 c.args.fresh.now) [] r) (sym c.in_err-written.ensures)
    (made_next a b s c.next_serial.new.self c.args.of_directory c.args.entry.now.name c.args.fresh.now c.requires.many may e.alone ℕ c.in_ok-serial.serial (e.gives told may.fits)
    c.next_fid-fid.result (c.next_fid-fid.ensures.is ∙ ap (made_fid c.args.of_directory) e.next) d c.make-made.new.hints c.make-made.new.tally made.alone
    (g.met.D.Disk.counted c.args.disk.now told) (g.met.D.Disk.counted c.next_serial.new.disk told) (g.met.D.Disk.counted c.make-made.new.disk told) (omega (arith, limit)) (e.kept ∙ ap (λ (n : ℕ). with_last n s.descriptor) e.next)
    c.new_file-file.result c.make-made.result made.cause (made.misled told) (made.operates told))))

pub returns-clause-steps : goal.returns-clause-steps
returns-clause-steps g c = λ told may.
    let a = g.D.Tape.tape c.args.disk.now in
    let b = g.D.Tape.tape c.next_serial.new.disk in
    let d = g.D.Tape.tape c.make-made.new.disk in
    let s = c.args.session.now in
    let e = c.in_ok-serial.ensures in
    let made = c.make-made.ensures in
    let limit = c.limit_of-limit.ensures in
    let two = record s { descriptor = c.next_serial.new.self; hints = c.make-made.new.hints; tally = c.make-made.new.tally } in
    let ops = make (made_fid c.args.of_directory (s.descriptor.last + 1)) c.args.entry.now.name s.moment ∷ [] in
    steps_ok FileRef (Unit {0}) a d (kept s) (kept two) ops (take 2 c.args.fresh.now) [] c.in_ok-written.field-0 c.new_file-file.result
    (subst (λ (r : Result (Unit {0}) Stop). StepsOn a d (kept s) (kept two) ops (take 2 c.args.fresh.now) [] r) (sym c.in_ok-written.ensures)
    (made_next a b s c.next_serial.new.self c.args.of_directory c.args.entry.now.name c.args.fresh.now c.requires.many may e.alone ℕ c.in_ok-serial.serial (e.gives told may.fits)
    c.next_fid-fid.result (c.next_fid-fid.ensures.is ∙ ap (made_fid c.args.of_directory) e.next) d c.make-made.new.hints c.make-made.new.tally made.alone
    (g.met.D.Disk.counted c.args.disk.now told) (g.met.D.Disk.counted c.next_serial.new.disk told) (g.met.D.Disk.counted c.make-made.new.disk told) (omega (arith, limit)) (e.kept ∙ ap (λ (n : ℕ). with_last n s.descriptor) e.next)
    c.new_file-file.result c.make-made.result made.cause (made.misled told) (made.operates told)))

pub returns-clause-placed : goal.returns-clause-placed
returns-clause-placed g c = λ told may.
    let b = g.D.Tape.tape c.next_serial.new.disk in
    let d = g.D.Tape.tape c.make-made.new.disk in
    let s = c.args.session.now in
    let e = c.in_ok-serial.ensures in
    let fid_is = c.next_fid-fid.ensures.is ∙ ap (made_fid c.args.of_directory) e.next in
    let asked = asked_of_make (g.D.Tape.tape c.args.disk.now) b s c.next_serial.new.self c.args.of_directory c.args.entry.now.name c.args.fresh.now c.requires.many may e.alone ℕ c.in_ok-serial.serial (e.gives told may.fits) c.next_fid-fid.result fid_is in
    ap (λ (f : Fid). place (sights (pack d)) f 0) (sym fid_is) ∙ (was_written _ c.new_file-file.result c.in_ok-written.field-0 c.make-made.result c.in_ok-written.ensures (c.make-made.ensures.placed told asked)).leader

pub returns-in_err-serial-clause-made : goal.returns-in_err-serial-clause-made
returns-in_err-serial-clause-made g c = ok_of_error _ _ c.from_residual.result c.from_residual.ensures.1

pub returns-in_err-serial-clause-placed : goal.returns-in_err-serial-clause-placed
returns-in_err-serial-clause-placed g c = λ told may. ok_of_error _ _ c.from_residual.result c.from_residual.ensures.1

pub returns-in_err-serial-clause-cause : goal.returns-in_err-serial-clause-cause
returns-in_err-serial-clause-cause g c = cause_passed (g.D.Tape.tape c.args.disk.now) (g.D.Tape.tape c.next_serial.new.disk) (stop_of_desc c.in_err-serial.field-0.0) c.from_residual.result c.from_residual.ensures.1 (cause_by_desc other tt (g.D.Tape.tape c.args.disk.now) (g.D.Tape.tape c.next_serial.new.disk) c.in_err-serial.field-0.0 c.in_err-serial.ensures.cause)

pub returns-in_err-serial-clause-alone : goal.returns-in_err-serial-clause-alone
returns-in_err-serial-clause-alone g c = c.in_err-serial.ensures.alone

pub returns-in_err-serial-clause-frame : goal.returns-in_err-serial-clause-frame
returns-in_err-serial-clause-frame g c = usable_own c.in_err-serial.ensures.guarded

pub returns-in_err-written-clause-made : goal.returns-in_err-written-clause-made
returns-in_err-written-clause-made g c = ok_of_error _ _ c.from_residual-in_err-written.result c.from_residual-in_err-written.ensures.1

pub returns-in_err-written-clause-placed : goal.returns-in_err-written-clause-placed
returns-in_err-written-clause-placed g c = λ told may. ok_of_error _ _ c.from_residual-in_err-written.result c.from_residual-in_err-written.ensures.1

pub returns-in_err-written-clause-unrefused : goal.returns-in_err-written-clause-unrefused
returns-in_err-written-clause-unrefused g c =
    refused_of_stop (Unit {0}) (λ r. ⊥) (λ r. ⊥) c.in_err-written.field-0.0 c.from_residual-in_err-written.result c.from_residual-in_err-written.ensures.1 (λ r h. h)
    (subst (λ (r : Result (Unit {0}) Stop). IfRefused r (λ x. ⊥)) (sym c.in_err-written.ensures) (written_unrefused c.new_file-file.result c.make-made.result))

pub returns-in_err-written-clause-cause : goal.returns-in_err-written-clause-cause
returns-in_err-written-clause-cause g c =
    let b = g.D.Tape.tape c.next_serial.new.disk in
    let d = g.D.Tape.tape c.make-made.new.disk in
    cause_after (g.D.Tape.tape c.args.disk.now) b d c.in_err-written.field-0.0 c.from_residual-in_err-written.result c.from_residual-in_err-written.ensures.1 c.in_ok-serial.ensures.cause
    (subst (λ (r : Result (Unit {0}) Stop). HasCause cause_of_stop b d r) (sym c.in_err-written.ensures) (written_cause b d c.new_file-file.result c.make-made.result c.make-made.ensures.cause))

pub returns-clause-cause : goal.returns-clause-cause
returns-clause-cause g c =
    let b = g.D.Tape.tape c.next_serial.new.disk in
    let d = g.D.Tape.tape c.make-made.new.disk in
    subst (λ (r : Result (Unit {0}) Stop). HasCause cause_of_stop b d r) (sym c.in_ok-written.ensures) (written_cause b d c.new_file-file.result c.make-made.result c.make-made.ensures.cause) ∙ c.in_ok-serial.ensures.cause
