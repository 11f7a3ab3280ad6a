use Rattle.std.proofs.Common.{◌*◌, ◌≡◌, ℕ, [], Some, sym, ap, subst, ◌∙◌, arith}
use Rattle.disk_records.proofs.Looking.{looks_pack}
use Rattle.disk_records.specs.Tapes.{pack}
use Rattle.exec_words.specs.declared.line.Line.TheVariants as line
use Rattle.exec_words.specs.declared.line.Target.TheVariants.{ByPath}
use Rattle.page_seeking.specs.Refs.{FileIsFrom, MisledBy}
use Rattle.pack_model.specs.reading.Files.{place}
use Rattle.pack_model.specs.reading.Model.{read_as}
use Rattle.pack_model.specs.reading.Sights.{sights}
use Rattle.pack_model.specs.states.Sound.{Sound}
use Rattle.session_model.specs.Finding.{fid_of}
use Rattle.session_model.specs.Touched.{files_named}
use Rattle.session_model.specs.Turning.{HintFailing}
use Rattle.exec_session.proofs.Finding.{hint_failing}
use Rattle.exec_session.proofs.Looking.{looks_about_twice}
use Rattle.exec_session.proofs.Stopping.{hint_of_stop, refused_of_stop}
use Rattle.exec_session.specs.Found.{IsNoneAt, dirs_followed}
use Rattle.exec_session.specs.declared.operands.Found.{Found}
use Rattle.exec_steps.specs.declared.rooms.NewEntry.{NewEntry}
use Rattle.exec_writing.specs.Entries.{OperandsRefuse}
use Rattle.exec_writing.specs.Plans.{IsPlaced, place_refusal}
use Rattle.exec_steps.proofs.Frames.{looks_about_within, cause_after, cause_passed, never_refused}
use Rattle.exec_writing.proofs.NamedEntries.{failing_more}
use Rattle.exec_writing.proofs.NewPlaces.{names_place, names_source, names_source_dirs}
use Rattle.exec_writing.proofs.Refusing.{source_absent, source_found}
use Rattle.exec_session.proofs.Causing.{not_wanted}
use Rattle.exec_session.proofs.Parts.{ok_of_error}
use Rattle.exec_writing.proofs.rename.plan_rename.Goals as goal

pub returns-in_err-found-clause-refused : goal.returns-in_err-found-clause-refused
returns-in_err-found-clause-refused g c = λ told sound.
    let p = pack (g.D.Tape.tape c.args.disk.now) in
    let old = c.args.old_path.now in
    let new = c.args.new_path.now in
    refused_of_stop Found (IsNoneAt p (ByPath old)) (OperandsRefuse p (line.Rename old new)) c.in_err-found.field-0.0 c.from_residual.result c.from_residual.ensures.1
    (λ r none. source_absent (read_as p) (ByPath old) new none.1 ∙ ap Some (sym none.0))
    (c.in_err-found.ensures.absent told sound)

pub returns-in_err-found-clause-misled : goal.returns-in_err-found-clause-misled
returns-in_err-found-clause-misled g c = λ told sound.
    let p = pack (g.D.Tape.tape c.args.disk.now) in
    let old = c.args.old_path.now in
    let new = c.args.new_path.now in
    let files = files_named (line.Rename old new) (read_as p) in
    hint_of_stop Found (HintFailing p [] (dirs_followed p (ByPath old))) (HintFailing p [] files) c.in_err-found.field-0.0 c.from_residual.result c.from_residual.ensures.1
    (λ place at wanted found h. failing_more p (dirs_followed p (ByPath old)) files place at wanted found (names_source_dirs (read_as p) (ByPath old) new) h)
    (c.in_err-found.ensures.misled told sound)

pub returns-in_err-entry-clause-refused : goal.returns-in_err-entry-clause-refused
returns-in_err-entry-clause-refused g c = λ told sound.
    let p = pack (g.D.Tape.tape c.args.disk.now) in
    let q = pack (g.D.Tape.tape c.find_path.new.disk) in
    let old = c.args.old_path.now in
    let new = c.args.new_path.now in
    let f = c.in_ok-found.found.file.fid in
    let same = looks_pack c.in_ok-found.ensures.looks.looks told in
    refused_of_stop NewEntry (λ r. place_refusal (read_as q) f new ≡ Some r) (OperandsRefuse p (line.Rename old new)) c.in_err-entry.field-0.0 c.from_residual-in_err-entry.result c.from_residual-in_err-entry.ensures.1
    (λ r is. source_found p (ByPath old) new f sound (ap fid_of (c.in_ok-found.ensures.found told sound).entry) ∙ subst (λ x. place_refusal (read_as x) f new ≡ Some r) same is)
    (c.in_err-entry.ensures.refused told (subst Sound (sym same) sound))

pub returns-in_err-entry-clause-misled : goal.returns-in_err-entry-clause-misled
returns-in_err-entry-clause-misled g c = λ told sound.
    let p = pack (g.D.Tape.tape c.args.disk.now) in
    let q = pack (g.D.Tape.tape c.find_path.new.disk) in
    let old = c.args.old_path.now in
    let new = c.args.new_path.now in
    let files = files_named (line.Rename old new) (read_as p) in
    let same = looks_pack c.in_ok-found.ensures.looks.looks told in
    hint_of_stop NewEntry (HintFailing q [] (dirs_followed q (ByPath new))) (HintFailing p [] files) c.in_err-entry.field-0.0 c.from_residual-in_err-entry.result c.from_residual-in_err-entry.ensures.1
    (λ place at wanted found h. failing_more p (dirs_followed p (ByPath new)) files place at wanted found (names_place (read_as p) (ByPath old) new) (subst (λ x. HintFailing x [] (dirs_followed x (ByPath new)) place at wanted found) same h))
    (c.in_err-entry.ensures.misled told (subst Sound (sym same) sound))

pub returns-in_err-leader_at-clause-misled : goal.returns-in_err-leader_at-clause-misled
returns-in_err-leader_at-clause-misled g c = λ told sound.
    let p = pack (g.D.Tape.tape c.args.disk.now) in
    let r = pack (g.D.Tape.tape c.plan_place.new.disk) in
    let old = c.args.old_path.now in
    let new = c.args.new_path.now in
    let file = c.in_ok-found.found.file in
    let files = files_named (line.Rename old new) (read_as p) in
    let at = c.in_ok-found.ensures.found told sound in
    let same = looks_pack c.in_ok-entry.ensures.looks.looks told ∙ looks_pack c.in_ok-found.ensures.looks.looks told in
    hint_of_stop ℕ (MisledBy r [] file.fid) (HintFailing p [] files) c.in_err-leader_at.field-0.0 c.from_residual-in_err-leader_at.result c.from_residual-in_err-leader_at.ensures.1
    (λ place at2 wanted found h. hint_failing p file.fid files place at2 wanted found sound (names_source (read_as p) (ByPath old) new file.fid (ap fid_of at.entry)) (subst (λ x. MisledBy x [] file.fid place at2 wanted found) same h))
    (c.in_err-leader_at.ensures.misled told (subst (λ x. FileIsFrom x file) (sym same) at.from))

pub returns-in_err-found-clause-looks : goal.returns-in_err-found-clause-looks
returns-in_err-found-clause-looks g c = looks_about_within (65588 * 524288) (omega arith) c.in_err-found.ensures.looks

pub returns-in_err-entry-clause-looks : goal.returns-in_err-entry-clause-looks
returns-in_err-entry-clause-looks g c = looks_about_twice (65588 * 524288) (omega arith) c.in_ok-found.ensures.looks c.in_err-entry.ensures.looks

pub returns-in_err-leader_at-clause-looks : goal.returns-in_err-leader_at-clause-looks
returns-in_err-leader_at-clause-looks g c = looks_about_twice (65588 * 524288) (omega arith) c.in_ok-found.ensures.looks (looks_about_twice (65588 * 393215) (omega arith) c.in_ok-entry.ensures.looks c.in_err-leader_at.ensures.looks)

pub returns-clause-looks : goal.returns-clause-looks
returns-clause-looks g c = looks_about_twice (65588 * 524288) (omega arith) c.in_ok-found.ensures.looks (looks_about_twice (65588 * 393215) (omega arith) c.in_ok-entry.ensures.looks c.in_ok-leader_at.ensures.looks)

pub returns-clause-planned : goal.returns-clause-planned
returns-clause-planned g c = λ told sound.
    let p = pack (g.D.Tape.tape c.args.disk.now) in
    let old = c.args.old_path.now in
    let new = c.args.new_path.now in
    let f = c.in_ok-found.found.file.fid in
    let e = c.in_ok-entry.entry in
    let at = c.in_ok-found.ensures.found told sound in
    let first = looks_pack c.in_ok-found.ensures.looks.looks told in
    let both = looks_pack c.in_ok-entry.ensures.looks.looks told ∙ first in
    let placed = subst (λ x. IsPlaced x f new e) first (c.in_ok-entry.ensures.placed told (subst Sound (sym first) sound)) in
    record {
      found = at;
      ordinary = placed.ordinary;
      leader = subst (λ x. place (sights x) f 0 ≡ Some c.in_ok-leader_at.leader_at) both (c.in_ok-leader_at.ensures.leader told (subst Sound (sym both) sound));
      entry = record {
        passes = source_found p (ByPath old) new f sound (ap fid_of at.entry) ∙ placed.unrefused;
        dir = placed.dir;
        directory = placed.directory;
        entry = placed.entry;
      };
    }

pub returns-in_err-found-clause-planned : goal.returns-in_err-found-clause-planned
returns-in_err-found-clause-planned g c = λ told sound. ok_of_error (λ s. s ≡ c.in_err-found.field-0.0) _ c.from_residual.result c.from_residual.ensures.1

pub returns-in_err-found-clause-cause : goal.returns-in_err-found-clause-cause
returns-in_err-found-clause-cause g c = cause_passed (g.D.Tape.tape c.args.disk.now) (g.D.Tape.tape c.find_path.new.disk) c.in_err-found.field-0.0 c.from_residual.result c.from_residual.ensures.1 c.in_err-found.ensures.cause

pub returns-in_err-found-clause-want : goal.returns-in_err-found-clause-want
returns-in_err-found-clause-want g c = λ told. not_wanted Found c.in_err-found.field-0.0 c.from_residual.result c.from_residual.ensures.1 (c.in_err-found.ensures.want told)

pub returns-in_err-entry-clause-planned : goal.returns-in_err-entry-clause-planned
returns-in_err-entry-clause-planned g c = λ told sound. ok_of_error (λ s. s ≡ c.in_err-entry.field-0.0) _ c.from_residual-in_err-entry.result c.from_residual-in_err-entry.ensures.1

pub returns-in_err-entry-clause-cause : goal.returns-in_err-entry-clause-cause
returns-in_err-entry-clause-cause g c =
    cause_after (g.D.Tape.tape c.args.disk.now) (g.D.Tape.tape c.find_path.new.disk) (g.D.Tape.tape c.plan_place.new.disk) c.in_err-entry.field-0.0 c.from_residual-in_err-entry.result c.from_residual-in_err-entry.ensures.1 c.in_ok-found.ensures.cause c.in_err-entry.ensures.cause

pub returns-in_err-entry-clause-want : goal.returns-in_err-entry-clause-want
returns-in_err-entry-clause-want g c = λ told. not_wanted NewEntry c.in_err-entry.field-0.0 c.from_residual-in_err-entry.result c.from_residual-in_err-entry.ensures.1 (c.in_err-entry.ensures.want told)

pub returns-in_err-leader_at-clause-planned : goal.returns-in_err-leader_at-clause-planned
returns-in_err-leader_at-clause-planned g c = λ told sound. ok_of_error (λ s. s ≡ c.in_err-leader_at.field-0.0) _ c.from_residual-in_err-leader_at.result c.from_residual-in_err-leader_at.ensures.1

pub returns-in_err-leader_at-clause-cause : goal.returns-in_err-leader_at-clause-cause
returns-in_err-leader_at-clause-cause g c =
    cause_after (g.D.Tape.tape c.args.disk.now) (g.D.Tape.tape c.plan_place.new.disk) (g.D.Tape.tape c.leader_of.new.disk) c.in_err-leader_at.field-0.0 c.from_residual-in_err-leader_at.result c.from_residual-in_err-leader_at.ensures.1 (c.in_ok-entry.ensures.cause ∙ c.in_ok-found.ensures.cause) c.in_err-leader_at.ensures.cause

pub returns-in_err-leader_at-clause-want : goal.returns-in_err-leader_at-clause-want
returns-in_err-leader_at-clause-want g c = λ told. not_wanted ℕ c.in_err-leader_at.field-0.0 c.from_residual-in_err-leader_at.result c.from_residual-in_err-leader_at.ensures.1 (c.in_err-leader_at.ensures.want told)

pub returns-clause-cause : goal.returns-clause-cause
returns-clause-cause g c = c.in_ok-leader_at.ensures.cause ∙ c.in_ok-entry.ensures.cause ∙ c.in_ok-found.ensures.cause

pub returns-clause-refused : goal.returns-clause-refused
returns-clause-refused g c = λ told sound. tt

pub returns-clause-misled : goal.returns-clause-misled
returns-clause-misled g c = λ told sound. tt

pub returns-clause-want : goal.returns-clause-want
returns-clause-want g c = λ told is. cc

pub returns-in_err-leader_at-clause-refused : goal.returns-in_err-leader_at-clause-refused
returns-in_err-leader_at-clause-refused g c = λ told sound. never_refused ℕ (OperandsRefuse (pack (g.D.Tape.tape c.args.disk.now)) (line.Rename c.args.old_path.now c.args.new_path.now)) c.in_err-leader_at.field-0.0 c.from_residual-in_err-leader_at.result c.from_residual-in_err-leader_at.ensures.1 c.in_err-leader_at.ensures.unrefused
