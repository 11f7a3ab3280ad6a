use Rattle.std.proofs.Common.{Err, Ok, Result, ℕ, [], drop, length, take, false, ◌+◌, ◌-◌, ◌∙◌, ap, refl, subst, sym, ◌∷◌, ◌≡◌}
use Rattle.disk_records.proofs.Framing.{usable_twice}
use Rattle.alto_words.specs.Fid.{sys_dir}
use Rattle.alto_words.specs.declared.fid.Fid.{Fid}
use Rattle.disk_records.proofs.Growing.{alone_twice}
use Rattle.disk_records.specs.Tapes.{pack}
use Rattle.disk_records.specs.Words.{word}
use Rattle.page_seeking.specs.declared.refs.FileRef.{FileRef}
use Rattle.exec_session.proofs.Stopping.{error_is}
use Rattle.exec_session.specs.Meant.{kept}
use Rattle.exec_steps.specs.Rooms.{pages_planned}
use Rattle.exec_session.specs.declared.stop.Stop.{Stop}
use Rattle.exec_steps.proofs.Joining.{steps_err, steps_ok}
use Rattle.exec_steps.specs.Asked.{made_fid}
use Rattle.exec_steps.specs.Midway.{StepsOn}
use Rattle.exec_writing.specs.Plans.{copied}
use Rattle.exec_writing.proofs.Required.{shape_worked, sized_worked}
use Rattle.exec_writing.proofs.Copying.{copy_ends, fills_made, from_there, making_stops}
use Rattle.exec_steps.proofs.Frames.{cause_after, cause_passed, never_refused, works_twice}
use Rattle.exec_session.proofs.Parts.{ok_of_error}
use Rattle.exec_writing.proofs.copy.write_copy.Goals as goal

pub returns-in_err-fill_copy-clause-alone : goal.returns-in_err-fill_copy-clause-alone
returns-in_err-fill_copy-clause-alone g c = alone_twice c.in_ok-file.ensures.alone c.in_err-fill_copy.ensures.alone

pub returns-in_err-fill_copy-clause-frame : goal.returns-in_err-fill_copy-clause-frame
returns-in_err-fill_copy-clause-frame g c = usable_twice c.in_ok-file.ensures.alone c.in_err-fill_copy.ensures.alone c.in_ok-file.ensures.frame c.in_err-fill_copy.ensures.frame

pub returns-clause-alone : goal.returns-clause-alone
returns-clause-alone g c = alone_twice c.in_ok-file.ensures.alone c.in_ok-fill_copy.ensures.alone

pub returns-clause-frame : goal.returns-clause-frame
returns-clause-frame g c = usable_twice c.in_ok-file.ensures.alone c.in_ok-fill_copy.ensures.alone c.in_ok-file.ensures.frame c.in_ok-fill_copy.ensures.frame

pub returns-in_err-file-clause-steps : goal.returns-in_err-file-clause-steps
returns-in_err-file-clause-steps g c = λ told may.
    let a = g.D.Tape.tape c.args.disk.now in
    let b = g.D.Tape.tape c.make_entered.new.disk in
    let s = c.args.session.now in
    let k1 = kept c.make_entered.new.session in
    let e = c.args.entry.now in
    let f = made_fid false (s.descriptor.last + 1) in
    let bytes = c.args.bytes.now in
    let fresh = c.args.fresh.now in
    subst (λ (r : Result Fid Stop). StepsOn a b (kept s) k1 (copied e f bytes s.moment) fresh (sys_dir ∷ e.dir.fid ∷ f ∷ []) r) (sym (error_is c.from_residual.result c.from_residual.ensures.1))
    (making_stops a b (kept s) k1 e f s.moment bytes fresh (drop (pages_planned e + 2) fresh) refl Fid FileRef c.in_err-file.field-0.0 (c.in_err-file.ensures.steps told may.makes))

pub returns-in_err-fill_copy-clause-steps : goal.returns-in_err-fill_copy-clause-steps
returns-in_err-fill_copy-clause-steps g c = λ told may.
    let a = g.D.Tape.tape c.args.disk.now in
    let b = g.D.Tape.tape c.make_entered.new.disk in
    let d = g.D.Tape.tape c.fill_copy.new.disk in
    let s = c.args.session.now in
    let k1 = kept c.make_entered.new.session in
    let k2 = kept c.fill_copy.new.session in
    let e = c.args.entry.now in
    let f = made_fid false (s.descriptor.last + 1) in
    let bytes = c.args.bytes.now in
    let fresh = c.args.fresh.now in
    let later = take (length fresh - (c.pages.result + 2)) (drop (c.pages.result + 2) fresh) in
    let is_later = from_there (c.pages.result + 2) fresh ∙ ap (λ (n : ℕ). drop (n + 2) fresh) c.pages.ensures in
    let x = c.in_err-fill_copy.field-0.0 in
    let h = c.in_ok-file.ensures in
    subst (λ (r : Result Fid Stop). StepsOn a d (kept s) k2 (copied e f bytes s.moment) fresh (sys_dir ∷ e.dir.fid ∷ f ∷ []) r) (sym (error_is c.from_residual-in_err-fill_copy.result c.from_residual-in_err-fill_copy.ensures.1))
    (steps_err Fid (Unit {0}) a d (kept s) k2 (copied e f bytes s.moment) fresh (sys_dir ∷ e.dir.fid ∷ f ∷ []) x
    (copy_ends a b (kept s) k1 e f s.moment bytes fresh later is_later (Unit {0}) FileRef c.in_ok-file.file d k2 c.in_ok-file.file (Err x) (h.steps told may.makes)
    (λ old one at done all rest m. h.stands old one at done all rest told may.makes m)
    (fills_made b d (kept s) k1 k2 e bytes fresh later s.moment c.make_entered.new.session.moment c.in_ok-file.file (word fresh (pages_planned e)) (pack a) may is_later h.made h.works.moment (Err x) (λ asked. c.in_err-fill_copy.ensures.steps told asked))))

pub returns-clause-steps : goal.returns-clause-steps
returns-clause-steps g c = λ told may.
    let a = g.D.Tape.tape c.args.disk.now in
    let b = g.D.Tape.tape c.make_entered.new.disk in
    let d = g.D.Tape.tape c.fill_copy.new.disk in
    let s = c.args.session.now in
    let k1 = kept c.make_entered.new.session in
    let k2 = kept c.fill_copy.new.session in
    let e = c.args.entry.now in
    let f = made_fid false (s.descriptor.last + 1) in
    let bytes = c.args.bytes.now in
    let fresh = c.args.fresh.now in
    let later = take (length fresh - (c.pages.result + 2)) (drop (c.pages.result + 2) fresh) in
    let is_later = from_there (c.pages.result + 2) fresh ∙ ap (λ (n : ℕ). drop (n + 2) fresh) c.pages.ensures in
    let x = c.in_ok-fill_copy.field-0 in
    let h = c.in_ok-file.ensures in
    steps_ok Fid (Unit {0}) a d (kept s) k2 (copied e f bytes s.moment) fresh (sys_dir ∷ e.dir.fid ∷ f ∷ []) x c.in_ok-file.file.fid
    (copy_ends a b (kept s) k1 e f s.moment bytes fresh later is_later (Unit {0}) FileRef c.in_ok-file.file d k2 c.in_ok-file.file (Ok x) (h.steps told may.makes)
    (λ old one at done all rest m. h.stands old one at done all rest told may.makes m)
    (fills_made b d (kept s) k1 k2 e bytes fresh later s.moment c.make_entered.new.session.moment c.in_ok-file.file (word fresh (pages_planned e)) (pack a) may is_later h.made h.works.moment (Ok x) (λ asked. c.in_ok-fill_copy.ensures.steps told asked)))

pub returns-in_err-file-clause-made : goal.returns-in_err-file-clause-made
returns-in_err-file-clause-made g c = ok_of_error (λ s. s ≡ c.in_err-file.field-0.0) _ c.from_residual.result c.from_residual.ensures.1

pub returns-in_err-file-clause-unrefused : goal.returns-in_err-file-clause-unrefused
returns-in_err-file-clause-unrefused g c = never_refused FileRef (λ r. ⊥) c.in_err-file.field-0.0 c.from_residual.result c.from_residual.ensures.1 c.in_err-file.ensures.unrefused

pub returns-in_err-file-clause-cause : goal.returns-in_err-file-clause-cause
returns-in_err-file-clause-cause g c = cause_passed (g.D.Tape.tape c.args.disk.now) (g.D.Tape.tape c.make_entered.new.disk) c.in_err-file.field-0.0 c.from_residual.result c.from_residual.ensures.1 c.in_err-file.ensures.cause

pub returns-in_err-file-clause-works : goal.returns-in_err-file-clause-works
returns-in_err-file-clause-works g c = c.in_err-file.ensures.works

pub returns-in_err-file-clause-alone : goal.returns-in_err-file-clause-alone
returns-in_err-file-clause-alone g c = c.in_err-file.ensures.alone

pub returns-in_err-file-clause-frame : goal.returns-in_err-file-clause-frame
returns-in_err-file-clause-frame g c = c.in_err-file.ensures.frame

pub returns-in_err-fill_copy-clause-made : goal.returns-in_err-fill_copy-clause-made
returns-in_err-fill_copy-clause-made g c = ok_of_error (λ s. s ≡ c.in_err-fill_copy.field-0.0) _ c.from_residual-in_err-fill_copy.result c.from_residual-in_err-fill_copy.ensures.1

pub returns-in_err-fill_copy-clause-unrefused : goal.returns-in_err-fill_copy-clause-unrefused
returns-in_err-fill_copy-clause-unrefused g c = never_refused (Unit {0}) (λ r. ⊥) c.in_err-fill_copy.field-0.0 c.from_residual-in_err-fill_copy.result c.from_residual-in_err-fill_copy.ensures.1 c.in_err-fill_copy.ensures.unrefused

pub returns-in_err-fill_copy-clause-cause : goal.returns-in_err-fill_copy-clause-cause
returns-in_err-fill_copy-clause-cause g c =
    cause_after (g.D.Tape.tape c.args.disk.now) (g.D.Tape.tape c.make_entered.new.disk) (g.D.Tape.tape c.fill_copy.new.disk) c.in_err-fill_copy.field-0.0 c.from_residual-in_err-fill_copy.result c.from_residual-in_err-fill_copy.ensures.1 c.in_ok-file.ensures.cause c.in_err-fill_copy.ensures.cause

pub returns-in_err-fill_copy-clause-works : goal.returns-in_err-fill_copy-clause-works
returns-in_err-fill_copy-clause-works g c = works_twice c.in_ok-file.ensures.works c.in_err-fill_copy.ensures.works

pub returns-clause-unrefused : goal.returns-clause-unrefused
returns-clause-unrefused g c = tt

pub returns-clause-cause : goal.returns-clause-cause
returns-clause-cause g c = c.in_ok-fill_copy.ensures.cause ∙ c.in_ok-file.ensures.cause

pub returns-clause-works : goal.returns-clause-works
returns-clause-works g c = works_twice c.in_ok-file.ensures.works c.in_ok-fill_copy.ensures.works

pub returns-clause-made : goal.returns-clause-made
returns-clause-made g c = ap (λ (f : FileRef). f.fid) c.in_ok-file.ensures.made

pub fill_copy-requires-clause-shape : goal.fill_copy-requires-clause-shape
fill_copy-requires-clause-shape g c = shape_worked (g.D.Tape.tape c.args.disk.now) (g.D.Tape.tape c.make_entered.new.disk) c.in_ok-file.ensures.works c.in_ok-file.ensures.alone c.requires.shape

pub fill_copy-requires-clause-sized : goal.fill_copy-requires-clause-sized
fill_copy-requires-clause-sized g c = sized_worked (g.D.Tape.tape c.args.disk.now) (g.D.Tape.tape c.make_entered.new.disk) c.in_ok-file.ensures.works c.in_ok-file.ensures.alone c.requires.sized
