use Rattle.std.proofs.Common.{Result, Ok, Err, Some, [], ap, drop, length, refl, subst, sym, take, ◌∷◌, ◌∙◌, ◌≡◌, ◌+◌, ◌-◌, ℕ}
use Rattle.disk_records.proofs.Framing.{usable_twice}
use Rattle.alto_words.specs.Fid.{sys_dir}
use Rattle.disk_descriptor.specs.Fields.{Fields}
use Rattle.disk_records.proofs.Growing.{alone_twice}
use Rattle.disk_records.specs.Tapes.{pack}
use Rattle.disk_records.specs.Words.{word}
use Rattle.page_seeking.specs.Refs.{FileIsFrom}
use Rattle.page_seeking.specs.declared.refs.FileRef.{FileRef}
use Rattle.pack_model.specs.operations.Step.Operation.{enter}
use Rattle.pack_model.specs.reading.Files.{place}
use Rattle.pack_model.specs.reading.Sights.{sights}
use Rattle.exec_session.specs.Meant.{kept}
use Rattle.exec_steps.specs.Rooms.{pages_planned}
use Rattle.exec_session.specs.declared.stop.Stop.{Stop}
use Rattle.exec_steps.specs.Asked.{MayEnterFile, made_entered, made_fid, new_ref}
use Rattle.exec_steps.specs.Midway.{StepsOn}
use Rattle.exec_steps.proofs.StepAnswers.{error_is}
use Rattle.exec_steps.proofs.Joining.{steps_err, steps_ok}
use Rattle.exec_steps.proofs.NewFile.{as_asked, enter_ends, from_there, leader_stands, make_stops, widenings_stop}
use Rattle.exec_session.proofs.Causing.{cause_after, cause_passed}
use Rattle.exec_session.proofs.Stopping.{refused_of_stop}
use Rattle.exec_steps.proofs.Frames.{works_twice}
use Rattle.exec_session.proofs.Parts.{ok_of_error}
use Rattle.exec_steps.proofs.making.make_entered.Goals as goal

pub returns-in_err-widen_first-clause-steps : goal.returns-in_err-widen_first-clause-steps
returns-in_err-widen_first-clause-steps g c = λ told may.
    let a = g.D.Tape.tape c.args.disk.now in
    let b = g.D.Tape.tape c.widen_first.new.disk in
    let s = c.args.session.now in
    let e = c.args.entry.now in
    let fresh = c.args.fresh.now in
    subst (λ (r : Result FileRef Stop). StepsOn a b (kept s) (kept c.widen_first.new.session) (made_entered e (made_fid c.args.of_directory (s.descriptor.last + 1)) s.moment) (take (pages_planned e + 2) fresh) (sys_dir ∷ e.dir.fid ∷ []) r) (sym (error_is c.from_residual.result c.from_residual.ensures.1))
    (widenings_stop a b (kept s) (kept c.widen_first.new.session) e c.args.of_directory fresh (drop (pages_planned e) fresh) s.moment refl FileRef (Unit {0}) c.in_err-widen_first.field-0.0 (c.in_err-widen_first.ensures.steps told may.widens))

pub returns-in_err-file-clause-alone : goal.returns-in_err-file-clause-alone
returns-in_err-file-clause-alone g c = alone_twice c.widen_first.ensures.alone c.make_next.ensures.alone

pub returns-in_err-file-clause-frame : goal.returns-in_err-file-clause-frame
returns-in_err-file-clause-frame g c = usable_twice c.widen_first.ensures.alone c.make_next.ensures.alone c.widen_first.ensures.frame c.make_next.ensures.frame

pub returns-in_err-enter_file-clause-alone : goal.returns-in_err-enter_file-clause-alone
returns-in_err-enter_file-clause-alone g c = alone_twice (alone_twice c.widen_first.ensures.alone c.make_next.ensures.alone) c.enter_file.ensures.alone

pub returns-in_err-enter_file-clause-frame : goal.returns-in_err-enter_file-clause-frame
returns-in_err-enter_file-clause-frame g c = usable_twice c.widen_first.ensures.alone (alone_twice c.make_next.ensures.alone c.enter_file.ensures.alone) c.widen_first.ensures.frame (usable_twice c.make_next.ensures.alone c.enter_file.ensures.alone c.make_next.ensures.frame c.enter_file.ensures.frame)

pub returns-clause-alone : goal.returns-clause-alone
returns-clause-alone g c = alone_twice (alone_twice c.widen_first.ensures.alone c.make_next.ensures.alone) c.enter_file.ensures.alone

pub returns-clause-frame : goal.returns-clause-frame
returns-clause-frame g c = usable_twice c.widen_first.ensures.alone (alone_twice c.make_next.ensures.alone c.enter_file.ensures.alone) c.widen_first.ensures.frame (usable_twice c.make_next.ensures.alone c.enter_file.ensures.alone c.make_next.ensures.frame c.enter_file.ensures.frame)

pub returns-in_err-file-clause-steps : goal.returns-in_err-file-clause-steps
returns-in_err-file-clause-steps g c = λ told may.
    let a = g.D.Tape.tape c.args.disk.now in
    let b = g.D.Tape.tape c.widen_first.new.disk in
    let m = g.D.Tape.tape c.make_next.new.disk in
    let s = c.args.session.now in
    let t = c.widen_first.new.session in
    let u = c.make_next.new.session in
    let e = c.args.entry.now in
    let dir = c.args.of_directory in
    let fresh = c.args.fresh.now in
    let later = take (length fresh - c.pages.result) (drop c.pages.result fresh) in
    let w = c.in_ok-widen_first.ensures in
    let same = ap (λ (d : Fields). d.last) w.descriptor in
    subst (λ (r : Result FileRef Stop). StepsOn a m (kept s) (kept u) (made_entered e (made_fid dir (s.descriptor.last + 1)) s.moment) (take (pages_planned e + 2) fresh) (sys_dir ∷ e.dir.fid ∷ []) r) (sym (error_is c.from_residual-in_err-file.result c.from_residual-in_err-file.ensures.1))
    (make_stops a b (kept s) (kept t) e dir fresh later s.moment (from_there c.pages.result fresh ∙ ap (λ (n : ℕ). drop n fresh) c.pages.ensures) (Unit {0}) c.in_ok-widen_first.field-0 may same (w.steps told may.widens) m (kept u) FileRef FileRef c.in_err-file.field-0.0
    (λ next. as_asked b m (kept t) (kept u) dir e.name later t.descriptor.last t.moment s.descriptor.last s.moment (Err c.in_err-file.field-0.0) same w.works.moment (c.in_err-file.ensures.steps told next)))

pub returns-in_err-enter_file-clause-steps : goal.returns-in_err-enter_file-clause-steps
returns-in_err-enter_file-clause-steps g c = λ told may.
    let a = g.D.Tape.tape c.args.disk.now in
    let b = g.D.Tape.tape c.widen_first.new.disk in
    let m = g.D.Tape.tape c.make_next.new.disk in
    let d = g.D.Tape.tape c.enter_file.new.disk in
    let s = c.args.session.now in
    let t = c.widen_first.new.session in
    let u = c.make_next.new.session in
    let v = c.enter_file.new.session in
    let e = c.args.entry.now in
    let dir = c.args.of_directory in
    let fresh = c.args.fresh.now in
    let later = take (length fresh - c.pages.result) (drop c.pages.result fresh) in
    let w = c.in_ok-widen_first.ensures in
    let n = c.in_ok-file.ensures in
    let x = c.in_err-enter_file.field-0.0 in
    let same = ap (λ (f : Fields). f.last) w.descriptor in
    let f = made_fid dir (s.descriptor.last + 1) in
    let file_is : c.in_ok-file.file ≡ new_ref f (word later 0) = n.made ∙ ap (λ (k : ℕ). new_ref (made_fid dir (k + 1)) (word later 0)) same in
    subst (λ (r : Result FileRef Stop). StepsOn a d (kept s) (kept v) (made_entered e f s.moment) (take (pages_planned e + 2) fresh) (sys_dir ∷ e.dir.fid ∷ []) r) (sym (error_is c.from_residual-in_err-enter_file.result c.from_residual-in_err-enter_file.ensures.1))
    (steps_err FileRef (Unit {0}) a d (kept s) (kept v) (made_entered e f s.moment) (take (pages_planned e + 2) fresh) (sys_dir ∷ e.dir.fid ∷ []) x
    (enter_ends a b (kept s) (kept t) e dir fresh later s.moment (from_there c.pages.result fresh ∙ ap (λ (k : ℕ). drop k fresh) c.pages.ensures) (Unit {0}) c.in_ok-widen_first.field-0 may same (w.steps told may.widens) m (kept u) FileRef c.in_ok-file.file (word later 0)
    (λ next. as_asked b m (kept t) (kept u) dir e.name later t.descriptor.last t.moment s.descriptor.last s.moment (Ok c.in_ok-file.file) same w.works.moment (n.steps told next))
    (λ next. subst (λ (k : ℕ). place (sights (pack m)) (made_fid dir (k + 1)) 0 ≡ Some (word later 0)) same (n.placed told next))
    (Unit {0}) d (kept v) (Err x)
    (λ asked. subst (λ (file : FileRef). MayEnterFile (pack m) e file.fid file.leader_at → StepsOn {T = Unit {0}} m d (kept u) (kept v) (enter e.dir.fid e.name file.fid ∷ []) [] (e.dir.fid ∷ []) (Err x)) file_is (c.in_err-enter_file.ensures.steps told) asked)))

pub returns-clause-steps : goal.returns-clause-steps
returns-clause-steps g c = λ told may.
    let a = g.D.Tape.tape c.args.disk.now in
    let b = g.D.Tape.tape c.widen_first.new.disk in
    let m = g.D.Tape.tape c.make_next.new.disk in
    let d = g.D.Tape.tape c.enter_file.new.disk in
    let s = c.args.session.now in
    let t = c.widen_first.new.session in
    let u = c.make_next.new.session in
    let v = c.enter_file.new.session in
    let e = c.args.entry.now in
    let dir = c.args.of_directory in
    let fresh = c.args.fresh.now in
    let later = take (length fresh - c.pages.result) (drop c.pages.result fresh) in
    let w = c.in_ok-widen_first.ensures in
    let n = c.in_ok-file.ensures in
    let same = ap (λ (f : Fields). f.last) w.descriptor in
    let f = made_fid dir (s.descriptor.last + 1) in
    let file_is : c.in_ok-file.file ≡ new_ref f (word later 0) = n.made ∙ ap (λ (k : ℕ). new_ref (made_fid dir (k + 1)) (word later 0)) same in
    steps_ok FileRef (Unit {0}) a d (kept s) (kept v) (made_entered e f s.moment) (take (pages_planned e + 2) fresh) (sys_dir ∷ e.dir.fid ∷ []) c.in_ok-enter_file.field-0 c.in_ok-file.file
    (enter_ends a b (kept s) (kept t) e dir fresh later s.moment (from_there c.pages.result fresh ∙ ap (λ (k : ℕ). drop k fresh) c.pages.ensures) (Unit {0}) c.in_ok-widen_first.field-0 may same (w.steps told may.widens) m (kept u) FileRef c.in_ok-file.file (word later 0)
    (λ next. as_asked b m (kept t) (kept u) dir e.name later t.descriptor.last t.moment s.descriptor.last s.moment (Ok c.in_ok-file.file) same w.works.moment (n.steps told next))
    (λ next. subst (λ (k : ℕ). place (sights (pack m)) (made_fid dir (k + 1)) 0 ≡ Some (word later 0)) same (n.placed told next))
    (Unit {0}) d (kept v) (Ok c.in_ok-enter_file.field-0)
    (λ asked. subst (λ (file : FileRef). MayEnterFile (pack m) e file.fid file.leader_at → StepsOn {T = Unit {0}} m d (kept u) (kept v) (enter e.dir.fid e.name file.fid ∷ []) [] (e.dir.fid ∷ []) (Ok c.in_ok-enter_file.field-0)) file_is (c.in_ok-enter_file.ensures.steps told) asked))

pub returns-clause-stands : goal.returns-clause-stands
returns-clause-stands g c = λ old one at done all rest told may midway.
    let a = g.D.Tape.tape c.args.disk.now in
    let b = g.D.Tape.tape c.widen_first.new.disk in
    let m = g.D.Tape.tape c.make_next.new.disk in
    let d = g.D.Tape.tape c.enter_file.new.disk in
    let s = c.args.session.now in
    let t = c.widen_first.new.session in
    let u = c.make_next.new.session in
    let v = c.enter_file.new.session in
    let e = c.args.entry.now in
    let dir = c.args.of_directory in
    let fresh = c.args.fresh.now in
    let later = take (length fresh - c.pages.result) (drop c.pages.result fresh) in
    let w = c.in_ok-widen_first.ensures in
    let n = c.in_ok-file.ensures in
    let same = ap (λ (f : Fields). f.last) w.descriptor in
    let f = made_fid dir (s.descriptor.last + 1) in
    let file_is : c.in_ok-file.file ≡ new_ref f (word later 0) = n.made ∙ ap (λ (k : ℕ). new_ref (made_fid dir (k + 1)) (word later 0)) same in
    subst (λ (file : FileRef). FileIsFrom (pack d) file) (sym file_is)
    (leader_stands a b (kept s) (kept t) e dir fresh later s.moment (from_there c.pages.result fresh ∙ ap (λ (k : ℕ). drop k fresh) c.pages.ensures) (Unit {0}) c.in_ok-widen_first.field-0 may same (w.steps told may.widens) m (kept u) FileRef c.in_ok-file.file (word later 0)
    (λ next. as_asked b m (kept t) (kept u) dir e.name later t.descriptor.last t.moment s.descriptor.last s.moment (Ok c.in_ok-file.file) same w.works.moment (n.steps told next))
    (λ next. subst (λ (k : ℕ). place (sights (pack m)) (made_fid dir (k + 1)) 0 ≡ Some (word later 0)) same (n.placed told next))
    d (kept v) (Unit {0}) c.in_ok-enter_file.field-0 old one at done all rest
    (λ asked. subst (λ (file : FileRef). MayEnterFile (pack m) e file.fid file.leader_at → StepsOn {T = Unit {0}} m d (kept u) (kept v) (enter e.dir.fid e.name file.fid ∷ []) [] (e.dir.fid ∷ []) (Ok c.in_ok-enter_file.field-0)) file_is (c.in_ok-enter_file.ensures.steps told) asked) midway)

pub returns-in_err-widen_first-clause-made : goal.returns-in_err-widen_first-clause-made
returns-in_err-widen_first-clause-made g c = ok_of_error _ _ c.from_residual.result c.from_residual.ensures.1

pub returns-in_err-widen_first-clause-stands : goal.returns-in_err-widen_first-clause-stands
returns-in_err-widen_first-clause-stands g c = λ old one at done all rest told may midway. ok_of_error _ _ c.from_residual.result c.from_residual.ensures.1

pub returns-in_err-widen_first-clause-unrefused : goal.returns-in_err-widen_first-clause-unrefused
returns-in_err-widen_first-clause-unrefused g c = refused_of_stop (Unit {0}) (λ r. ⊥) (λ r. ⊥) c.in_err-widen_first.field-0.0 c.from_residual.result c.from_residual.ensures.1 (λ r h. h) c.in_err-widen_first.ensures.unrefused

pub returns-in_err-widen_first-clause-cause : goal.returns-in_err-widen_first-clause-cause
returns-in_err-widen_first-clause-cause g c = cause_passed (g.D.Tape.tape c.args.disk.now) (g.D.Tape.tape c.widen_first.new.disk) c.in_err-widen_first.field-0.0 c.from_residual.result c.from_residual.ensures.1 c.in_err-widen_first.ensures.cause

pub returns-in_err-widen_first-clause-works : goal.returns-in_err-widen_first-clause-works
returns-in_err-widen_first-clause-works g c = c.widen_first.ensures.works

pub returns-in_err-file-clause-made : goal.returns-in_err-file-clause-made
returns-in_err-file-clause-made g c = ok_of_error _ _ c.from_residual-in_err-file.result c.from_residual-in_err-file.ensures.1

pub returns-in_err-file-clause-stands : goal.returns-in_err-file-clause-stands
returns-in_err-file-clause-stands g c = λ old one at done all rest told may midway. ok_of_error _ _ c.from_residual-in_err-file.result c.from_residual-in_err-file.ensures.1

pub returns-in_err-file-clause-unrefused : goal.returns-in_err-file-clause-unrefused
returns-in_err-file-clause-unrefused g c = refused_of_stop FileRef (λ r. ⊥) (λ r. ⊥) c.in_err-file.field-0.0 c.from_residual-in_err-file.result c.from_residual-in_err-file.ensures.1 (λ r h. h) c.in_err-file.ensures.unrefused

pub returns-in_err-file-clause-cause : goal.returns-in_err-file-clause-cause
returns-in_err-file-clause-cause g c = cause_after (g.D.Tape.tape c.args.disk.now) (g.D.Tape.tape c.widen_first.new.disk) (g.D.Tape.tape c.make_next.new.disk) c.in_err-file.field-0.0 c.from_residual-in_err-file.result c.from_residual-in_err-file.ensures.1 c.in_ok-widen_first.ensures.cause c.in_err-file.ensures.cause

pub returns-in_err-file-clause-works : goal.returns-in_err-file-clause-works
returns-in_err-file-clause-works g c = works_twice c.widen_first.ensures.works c.make_next.ensures.works

pub returns-in_err-enter_file-clause-made : goal.returns-in_err-enter_file-clause-made
returns-in_err-enter_file-clause-made g c = ok_of_error _ _ c.from_residual-in_err-enter_file.result c.from_residual-in_err-enter_file.ensures.1

pub returns-in_err-enter_file-clause-stands : goal.returns-in_err-enter_file-clause-stands
returns-in_err-enter_file-clause-stands g c = λ old one at done all rest told may midway. ok_of_error _ _ c.from_residual-in_err-enter_file.result c.from_residual-in_err-enter_file.ensures.1

pub returns-in_err-enter_file-clause-unrefused : goal.returns-in_err-enter_file-clause-unrefused
returns-in_err-enter_file-clause-unrefused g c = refused_of_stop (Unit {0}) (λ r. ⊥) (λ r. ⊥) c.in_err-enter_file.field-0.0 c.from_residual-in_err-enter_file.result c.from_residual-in_err-enter_file.ensures.1 (λ r h. h) c.in_err-enter_file.ensures.unrefused

pub returns-in_err-enter_file-clause-cause : goal.returns-in_err-enter_file-clause-cause
returns-in_err-enter_file-clause-cause g c = cause_after (g.D.Tape.tape c.args.disk.now) (g.D.Tape.tape c.make_next.new.disk) (g.D.Tape.tape c.enter_file.new.disk) c.in_err-enter_file.field-0.0 c.from_residual-in_err-enter_file.result c.from_residual-in_err-enter_file.ensures.1 (c.in_ok-file.ensures.cause ∙ c.in_ok-widen_first.ensures.cause) c.in_err-enter_file.ensures.cause

pub returns-in_err-enter_file-clause-works : goal.returns-in_err-enter_file-clause-works
returns-in_err-enter_file-clause-works g c = works_twice (works_twice c.widen_first.ensures.works c.make_next.ensures.works) c.enter_file.ensures.works

pub returns-in_err-widen_first-clause-alone : goal.returns-in_err-widen_first-clause-alone
returns-in_err-widen_first-clause-alone g c = c.widen_first.ensures.alone

pub returns-in_err-widen_first-clause-frame : goal.returns-in_err-widen_first-clause-frame
returns-in_err-widen_first-clause-frame g c = c.widen_first.ensures.frame

pub returns-clause-works : goal.returns-clause-works
returns-clause-works g c = works_twice (works_twice c.widen_first.ensures.works c.make_next.ensures.works) c.enter_file.ensures.works

pub returns-clause-cause : goal.returns-clause-cause
returns-clause-cause g c = c.in_ok-enter_file.ensures.cause ∙ c.in_ok-file.ensures.cause ∙ c.in_ok-widen_first.ensures.cause
