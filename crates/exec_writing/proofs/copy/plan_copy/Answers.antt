use Rattle.std.proofs.Common.{◌*◌, ◌≡◌, [], Some, sym, ap, subst, ◌∙◌, arith}
use Rattle.disk_records.proofs.Looking.{looks_pack}
use Rattle.disk_records.specs.Tapes.{pack}
use Rattle.exec_words.specs.declared.line.Line.TheVariants as line
use Rattle.exec_words.specs.declared.line.Target.TheVariants.{ByPath}
use Rattle.page_seeking.specs.declared.refs.FileRef.{FileRef}
use Rattle.pack_model.specs.reading.Model.{read_as}
use Rattle.pack_model.specs.states.Sound.{Sound}
use Rattle.session_model.specs.Touched.{files_named}
use Rattle.session_model.specs.Turning.{HintFailing}
use Rattle.exec_session.proofs.Looking.{looks_about_twice}
use Rattle.exec_session.proofs.Stopping.{hint_of_stop, refused_of_stop}
use Rattle.exec_session.specs.Found.{IsNoneAt, dirs_followed}
use Rattle.exec_steps.specs.declared.rooms.NewEntry.{NewEntry}
use Rattle.exec_writing.specs.Entries.{OperandsRefuse}
use Rattle.exec_writing.specs.Plans.{IsPlaced, place_refusal}
use Rattle.exec_steps.proofs.Frames.{looks_about_within, cause_after, cause_passed}
use Rattle.exec_writing.proofs.NamedEntries.{failing_more}
use Rattle.exec_writing.proofs.NewPlaces.{names_place, names_source_dirs}
use Rattle.exec_writing.proofs.Refusing.{source_absent, source_found}
use Rattle.exec_session.proofs.Causing.{not_wanted}
use Rattle.exec_session.proofs.Parts.{ok_of_error}
use Rattle.exec_writing.proofs.copy.plan_copy.Goals as goal

-- ---- the file isn't there
pub returns-in_err-source-clause-refused : goal.returns-in_err-source-clause-refused
returns-in_err-source-clause-refused g c = λ told sound.
    let p = pack (g.D.Tape.tape c.args.disk.now) in
    let target = c.args.target.now in
    let path = c.args.path.now in
    refused_of_stop FileRef (IsNoneAt p target) (OperandsRefuse p (line.Copy target path)) c.in_err-source.field-0.0 c.from_residual.result c.from_residual.ensures.1
    (λ r none. source_absent (read_as p) target path none.1 ∙ ap Some (sym none.0))
    (c.in_err-source.ensures.absent told sound)

pub returns-in_err-source-clause-misled : goal.returns-in_err-source-clause-misled
returns-in_err-source-clause-misled g c = λ told sound.
    let p = pack (g.D.Tape.tape c.args.disk.now) in
    let target = c.args.target.now in
    let path = c.args.path.now in
    let files = files_named (line.Copy target path) (read_as p) in
    hint_of_stop FileRef (HintFailing p [] (dirs_followed p target)) (HintFailing p [] files) c.in_err-source.field-0.0 c.from_residual.result c.from_residual.ensures.1
    (λ place at wanted found h. failing_more p (dirs_followed p target) files place at wanted found (names_source_dirs (read_as p) target path) h)
    (c.in_err-source.ensures.misled told sound)

pub returns-in_err-source-clause-looks : goal.returns-in_err-source-clause-looks
returns-in_err-source-clause-looks g c = looks_about_within (65588 * 524288) (omega arith) c.in_err-source.ensures.looks

-- ---- its new place is refused
pub returns-in_err-entry-clause-refused : goal.returns-in_err-entry-clause-refused
returns-in_err-entry-clause-refused g c = λ told sound.
    let p = pack (g.D.Tape.tape c.args.disk.now) in
    let q = pack (g.D.Tape.tape c.find_target.new.disk) in
    let target = c.args.target.now in
    let path = c.args.path.now in
    let f = c.in_ok-source.source.fid in
    let same = looks_pack c.in_ok-source.ensures.looks.looks told in
    refused_of_stop NewEntry (λ r. place_refusal (read_as q) f path ≡ Some r) (OperandsRefuse p (line.Copy target path)) c.in_err-entry.field-0.0 c.from_residual-in_err-entry.result c.from_residual-in_err-entry.ensures.1
    (λ r is. source_found p target path f sound (c.in_ok-source.ensures.found told sound).is ∙ subst (λ x. place_refusal (read_as x) f path ≡ Some r) same is)
    (c.in_err-entry.ensures.refused told (subst Sound (sym same) sound))

pub returns-in_err-entry-clause-misled : goal.returns-in_err-entry-clause-misled
returns-in_err-entry-clause-misled g c = λ told sound.
    let p = pack (g.D.Tape.tape c.args.disk.now) in
    let q = pack (g.D.Tape.tape c.find_target.new.disk) in
    let target = c.args.target.now in
    let path = c.args.path.now in
    let files = files_named (line.Copy target path) (read_as p) in
    let same = looks_pack c.in_ok-source.ensures.looks.looks told in
    hint_of_stop NewEntry (HintFailing q [] (dirs_followed q (ByPath path))) (HintFailing p [] files) c.in_err-entry.field-0.0 c.from_residual-in_err-entry.result c.from_residual-in_err-entry.ensures.1
    (λ place at wanted found h. failing_more p (dirs_followed p (ByPath path)) files place at wanted found (names_place (read_as p) target path) (subst (λ x. HintFailing x [] (dirs_followed x (ByPath path)) place at wanted found) same h))
    (c.in_err-entry.ensures.misled told (subst Sound (sym same) sound))

pub returns-in_err-entry-clause-looks : goal.returns-in_err-entry-clause-looks
returns-in_err-entry-clause-looks g c = looks_about_twice (65588 * 524288) (omega arith) c.in_ok-source.ensures.looks c.in_err-entry.ensures.looks

-- ---- both are found
pub returns-clause-planned : goal.returns-clause-planned
returns-clause-planned g c = λ told sound.
    let p = pack (g.D.Tape.tape c.args.disk.now) in
    let target = c.args.target.now in
    let path = c.args.path.now in
    let f = c.in_ok-source.source.fid in
    let e = c.in_ok-entry.entry in
    let at = c.in_ok-source.ensures.found told sound in
    let same = looks_pack c.in_ok-source.ensures.looks.looks told in
    let placed = subst (λ x. IsPlaced x f path e) same (c.in_ok-entry.ensures.placed told (subst Sound (sym same) sound)) in
    record {
      source = at;
      ordinary = placed.ordinary;
      entry = record { passes = source_found p target path f sound at.is ∙ placed.unrefused; dir = placed.dir; directory = placed.directory; entry = placed.entry };
    }

pub returns-clause-looks : goal.returns-clause-looks
returns-clause-looks g c = looks_about_twice (65588 * 524288) (omega arith) c.in_ok-source.ensures.looks c.in_ok-entry.ensures.looks

pub returns-in_err-source-clause-planned : goal.returns-in_err-source-clause-planned
returns-in_err-source-clause-planned g c = λ told sound. ok_of_error (λ s. s ≡ c.in_err-source.field-0.0) _ c.from_residual.result c.from_residual.ensures.1

pub returns-in_err-source-clause-cause : goal.returns-in_err-source-clause-cause
returns-in_err-source-clause-cause g c = cause_passed (g.D.Tape.tape c.args.disk.now) (g.D.Tape.tape c.find_target.new.disk) c.in_err-source.field-0.0 c.from_residual.result c.from_residual.ensures.1 c.in_err-source.ensures.cause

pub returns-in_err-source-clause-want : goal.returns-in_err-source-clause-want
returns-in_err-source-clause-want g c = λ told. not_wanted FileRef c.in_err-source.field-0.0 c.from_residual.result c.from_residual.ensures.1 (c.in_err-source.ensures.want told)

pub returns-in_err-entry-clause-planned : goal.returns-in_err-entry-clause-planned
returns-in_err-entry-clause-planned g c = λ told sound. ok_of_error (λ s. s ≡ c.in_err-entry.field-0.0) _ c.from_residual-in_err-entry.result c.from_residual-in_err-entry.ensures.1

pub returns-in_err-entry-clause-cause : goal.returns-in_err-entry-clause-cause
returns-in_err-entry-clause-cause g c =
    cause_after (g.D.Tape.tape c.args.disk.now) (g.D.Tape.tape c.find_target.new.disk) (g.D.Tape.tape c.plan_place.new.disk) c.in_err-entry.field-0.0 c.from_residual-in_err-entry.result c.from_residual-in_err-entry.ensures.1 c.in_ok-source.ensures.cause c.in_err-entry.ensures.cause

pub returns-in_err-entry-clause-want : goal.returns-in_err-entry-clause-want
returns-in_err-entry-clause-want g c = λ told. not_wanted NewEntry c.in_err-entry.field-0.0 c.from_residual-in_err-entry.result c.from_residual-in_err-entry.ensures.1 (c.in_err-entry.ensures.want told)

pub returns-clause-cause : goal.returns-clause-cause
returns-clause-cause g c = c.in_ok-entry.ensures.cause ∙ c.in_ok-source.ensures.cause

pub returns-clause-refused : goal.returns-clause-refused
returns-clause-refused g c = λ told sound. tt

pub returns-clause-misled : goal.returns-clause-misled
returns-clause-misled g c = λ told sound. tt

pub returns-clause-want : goal.returns-clause-want
returns-clause-want g c = λ told is. cc
