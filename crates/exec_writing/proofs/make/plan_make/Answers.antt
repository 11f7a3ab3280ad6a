use Rattle.std.proofs.Common.{◌≡◌, ◌*◌, ◌&&◌, Bool, true, false, not, [], ◌∷◌, Some, Result, Ok, Err, IfOk, refl, sym, subst, ap, ◌∙◌, arith}
use Rattle.std.specs.Option.{option_or, unwrap_or}
use Rattle.alto_words.specs.Fid.{is_directory, sys_dir}
use Rattle.disk_records.proofs.Looking.{looks_pack}
use Rattle.disk_records.specs.Packs.{Pack}
use Rattle.disk_records.specs.Tapes.{pack}
use Rattle.exec_words.specs.Typed.{is_typed_dir, is_typed_wanted}
use Rattle.exec_words.specs.declared.line.Line.TheVariants as line
use Rattle.exec_words.specs.declared.line.Path.{Path}
use Rattle.exec_words.specs.declared.reply.Refusal.TheVariants as refusal
use Rattle.page_seeking.specs.declared.refs.FileRef.{FileRef}
use Rattle.pack_model.specs.reading.Model.{dir_items, read_as}
use Rattle.pack_model.specs.reading.Versions.{is_name_taken}
use Rattle.pack_model.specs.states.Sound.{Sound}
use Rattle.session_model.specs.Finding.{is_path_taken}
use Rattle.session_model.specs.Refusals.{when}
use Rattle.session_model.specs.Touched.{files_named}
use Rattle.session_model.specs.Turning.{HintFailing}
use Rattle.directory.specs.Asked.{DirStands}
use Rattle.exec_session.proofs.Looking.{looks_about_twice}
use Rattle.exec_session.proofs.OrdinaryFiles.{by_test, ok_test}
use Rattle.exec_session.proofs.Stopping.{error_is, hint_of_stop, refused_as, refused_of_stop}
use Rattle.exec_session.specs.Found.{IsDirOf, IsNoDirOf, root_ref}
use Rattle.exec_session.specs.Meant.{IfHint, IfRefused}
use Rattle.exec_session.specs.NewNames.{IsTaken}
use Rattle.exec_steps.specs.declared.rooms.NewEntry.{NewEntry}
use Rattle.exec_session.specs.declared.stop.Stop.{Stop}
use Rattle.exec_steps.proofs.Stepping.{if_hint_weaker}
use Rattle.exec_writing.specs.Entries.{IsNewEntry, OperandsRefuse, PlansPath}
use Rattle.exec_writing.proofs.Adding.{root_stands, touched_pair}
use Rattle.exec_steps.proofs.Frames.{looks_about_within, cause_passed}
use Rattle.exec_writing.proofs.NamedEntries.{dir_stands, failing_more, make_absent, make_found, path_touches, root_touched, root_touches}
use Rattle.exec_writing.proofs.NewSectors.{refused_then}
use Rattle.exec_session.proofs.Causing.{cause_refused, cause_sooner, not_wanted, not_wanted_refused}
use Rattle.exec_session.proofs.Parts.{ok_of_error}
use Rattle.exec_writing.proofs.make.plan_make.Goals as goal

-- ---- the directory isn't there
pub returns-in_err-dir-clause-refused : goal.returns-in_err-dir-clause-refused
returns-in_err-dir-clause-refused g c = λ told sound.
    let p = pack (g.D.Tape.tape c.args.disk.now) in
    let path = c.args.path.now in
    refused_of_stop FileRef (IsNoDirOf p path.dir) (OperandsRefuse p (line.Make path)) c.in_err-dir.field-0.0 c.from_residual.result c.from_residual.ensures.1
    (λ r none. make_absent (read_as p) path none.1 ∙ ap Some (sym none.0))
    (c.in_err-dir.ensures.absent told sound)

pub returns-in_err-dir-clause-misled : goal.returns-in_err-dir-clause-misled
returns-in_err-dir-clause-misled g c = λ told sound.
    let p = pack (g.D.Tape.tape c.args.disk.now) in
    let files = files_named (line.Make c.args.path.now) (read_as p) in
    hint_of_stop FileRef (HintFailing p [] (sys_dir ∷ [])) (HintFailing p [] files) c.in_err-dir.field-0.0 c.from_residual.result c.from_residual.ensures.1
    (λ place at wanted found h. failing_more p (sys_dir ∷ []) files place at wanted found (root_touches (read_as p) (line.Make c.args.path.now)) h)
    (c.in_err-dir.ensures.misled told sound)

pub returns-in_err-dir-clause-looks : goal.returns-in_err-dir-clause-looks
returns-in_err-dir-clause-looks g c = looks_about_within (65588 * 327680) (omega arith) c.in_err-dir.ensures.looks

-- ---- it is none
pub returns-in_err-require_directory-clause-refused : goal.returns-in_err-require_directory-clause-refused
returns-in_err-require_directory-clause-refused g c = λ told sound.
    let p = pack (g.D.Tape.tape c.args.disk.now) in
    let path = c.args.path.now in
    let d = c.in_ok-dir.dir.fid in
    let t = by_test (not (is_directory d)) c.in_err-require_directory.field-0.0 refusal.NotADirectory c.in_err-require_directory.ensures in
    refused_as (OperandsRefuse p (line.Make path)) c.from_residual-in_err-require_directory.result refusal.NotADirectory (error_is c.from_residual-in_err-require_directory.result c.from_residual-in_err-require_directory.ensures.1 ∙ ap Err t.1)
    (make_found (read_as p) path d (c.in_ok-dir.ensures.found told sound).is ∙ ap (λ b. option_or (when b refusal.NotADirectory) (when (is_path_taken (read_as p) path) refusal.NameTaken)) t.0)

pub returns-in_err-require_directory-clause-looks : goal.returns-in_err-require_directory-clause-looks
returns-in_err-require_directory-clause-looks g c = looks_about_within (65588 * 327680) (omega arith) c.in_ok-dir.ensures.looks

-- ---- its name
both : (a b : Bool) → (a && b) ≡ true → b ≡ true
both true b e = e
both false b e = absurd (let n : false ≡ true = e in cc)

pub plan_named-requires : goal.plan_named-requires
plan_named-requires g c = record { typed = both (is_typed_dir c.args.path.now.dir) (is_typed_wanted c.args.path.now.wanted) c.requires.typed }

is_dir : (b : Bool) → not b ≡ false → b ≡ true
is_dir true e = refl
is_dir false e = absurd (let n : true ≡ false = e in cc)

module _ (p q : Pack) (path : Path) (dir : FileRef) (same : q ≡ p) (sound : Sound p) (found : IsDirOf p path.dir dir) (directory : is_directory dir.fid ≡ true) where
  root_then : DirStands q root_ref
  root_then = subst (λ x. DirStands x root_ref) (sym same) (root_stands p sound)

  dir_then : DirStands q dir
  dir_then = subst (λ x. DirStands x dir) (sym same) (dir_stands p dir sound found.from directory)

  taken_is : is_path_taken (read_as p) path ≡ is_name_taken path.wanted (dir_items (read_as p) dir.fid)
  taken_is = ap (λ r. is_name_taken path.wanted (dir_items (read_as p) (unwrap_or r sys_dir))) found.is

  by_name : (t : Bool) → is_name_taken path.wanted (dir_items (read_as p) dir.fid) ≡ t → option_or (when (not (is_directory dir.fid)) refusal.NotADirectory) (when (is_path_taken (read_as p) path) refusal.NameTaken) ≡ when t refusal.NameTaken
  by_name t e = ap (λ b. option_or (when (not b) refusal.NotADirectory) (when (is_path_taken (read_as p) path) refusal.NameTaken)) directory ∙ ap (λ b. when b refusal.NameTaken) (taken_is ∙ e)

  planned_path : (r : Result NewEntry Stop) → IfOk r (IsNewEntry q dir path.wanted) → IfOk r (PlansPath p (line.Make path) path)
  planned_path (Err x) h = tt
  planned_path (Ok e) h =
      let entry : IsNewEntry p dir path.wanted e = subst (λ x. IsNewEntry x dir path.wanted e) same h in
      let own : dir ≡ e.dir = sym entry.planned.dir_is in
      record {
        passes = make_found (read_as p) path dir.fid found.is ∙ by_name false entry.given.0;
        dir = subst (IsDirOf p path.dir) own found;
        directory = subst (λ (d : FileRef). is_directory d.fid ≡ true) own directory;
        entry = subst (λ d. IsNewEntry p d path.wanted e) own entry;
      }

  name_refused : (r : Result NewEntry Stop) → IfRefused r (IsTaken q dir.fid path.wanted) → IfRefused r (OperandsRefuse p (line.Make path))
  name_refused r h =
      refused_then (IsTaken p dir.fid path.wanted) (OperandsRefuse p (line.Make path)) r
      (λ x t. make_found (read_as p) path dir.fid found.is ∙ by_name true t.1 ∙ ap Some (sym t.0))
      (subst (λ x. IfRefused r (IsTaken x dir.fid path.wanted)) same h)

  name_misled : (r : Result NewEntry Stop) → IfHint r (HintFailing q [] (sys_dir ∷ dir.fid ∷ [])) → IfHint r (HintFailing p [] (files_named (line.Make path) (read_as p)))
  name_misled r h =
      let files = files_named (line.Make path) (read_as p) in
      if_hint_weaker (HintFailing p [] (sys_dir ∷ dir.fid ∷ [])) (HintFailing p [] files) r
      (λ place at wanted label k. failing_more p (sys_dir ∷ dir.fid ∷ []) files place at wanted label (touched_pair files sys_dir dir.fid (root_touched (read_as p) (line.Make path)) (path_touches (read_as p) path dir.fid found.is)) k)
      (subst (λ x. IfHint r (HintFailing x [] (sys_dir ∷ dir.fid ∷ []))) same h)

pub returns-clause-planned : goal.returns-clause-planned
returns-clause-planned g c = λ told sound.
    let p = pack (g.D.Tape.tape c.args.disk.now) in
    let q = pack (g.D.Tape.tape c.find_dir.new.disk) in
    let dir = c.in_ok-dir.dir in
    let same = looks_pack c.in_ok-dir.ensures.looks.looks told in
    let found = c.in_ok-dir.ensures.found told sound in
    let directory = is_dir (is_directory dir.fid) (ok_test (not (is_directory dir.fid)) c.in_ok-require_directory.field-0 refusal.NotADirectory c.in_ok-require_directory.ensures) in
    planned_path p q c.args.path.now dir same sound found directory c.plan_named.result
    (c.plan_named.ensures.planned told (root_then p q c.args.path.now dir same sound found directory) (dir_then p q c.args.path.now dir same sound found directory))

pub returns-clause-refused : goal.returns-clause-refused
returns-clause-refused g c = λ told sound.
    let p = pack (g.D.Tape.tape c.args.disk.now) in
    let q = pack (g.D.Tape.tape c.find_dir.new.disk) in
    let dir = c.in_ok-dir.dir in
    let same = looks_pack c.in_ok-dir.ensures.looks.looks told in
    let found = c.in_ok-dir.ensures.found told sound in
    let directory = is_dir (is_directory dir.fid) (ok_test (not (is_directory dir.fid)) c.in_ok-require_directory.field-0 refusal.NotADirectory c.in_ok-require_directory.ensures) in
    name_refused p q c.args.path.now dir same sound found directory c.plan_named.result
    (c.plan_named.ensures.taken told (dir_then p q c.args.path.now dir same sound found directory))

pub returns-clause-misled : goal.returns-clause-misled
returns-clause-misled g c = λ told sound.
    let p = pack (g.D.Tape.tape c.args.disk.now) in
    let q = pack (g.D.Tape.tape c.find_dir.new.disk) in
    let dir = c.in_ok-dir.dir in
    let same = looks_pack c.in_ok-dir.ensures.looks.looks told in
    let found = c.in_ok-dir.ensures.found told sound in
    let directory = is_dir (is_directory dir.fid) (ok_test (not (is_directory dir.fid)) c.in_ok-require_directory.field-0 refusal.NotADirectory c.in_ok-require_directory.ensures) in
    name_misled p q c.args.path.now dir same sound found directory c.plan_named.result
    (c.plan_named.ensures.misled told (root_then p q c.args.path.now dir same sound found directory) (dir_then p q c.args.path.now dir same sound found directory))

pub returns-clause-looks : goal.returns-clause-looks
returns-clause-looks g c = looks_about_twice (65588 * 327680) (omega arith) c.in_ok-dir.ensures.looks c.plan_named.ensures.looks

pub returns-in_err-dir-clause-planned : goal.returns-in_err-dir-clause-planned
returns-in_err-dir-clause-planned g c = λ told sound. ok_of_error (λ s. s ≡ c.in_err-dir.field-0.0) _ c.from_residual.result c.from_residual.ensures.1

pub returns-in_err-dir-clause-cause : goal.returns-in_err-dir-clause-cause
returns-in_err-dir-clause-cause g c = cause_passed (g.D.Tape.tape c.args.disk.now) (g.D.Tape.tape c.find_dir.new.disk) c.in_err-dir.field-0.0 c.from_residual.result c.from_residual.ensures.1 c.in_err-dir.ensures.cause

pub returns-in_err-dir-clause-want : goal.returns-in_err-dir-clause-want
returns-in_err-dir-clause-want g c = λ told. not_wanted FileRef c.in_err-dir.field-0.0 c.from_residual.result c.from_residual.ensures.1 (c.in_err-dir.ensures.want told)

pub returns-in_err-require_directory-clause-planned : goal.returns-in_err-require_directory-clause-planned
returns-in_err-require_directory-clause-planned g c = λ told sound. ok_of_error (λ s. s ≡ c.in_err-require_directory.field-0.0) _ c.from_residual-in_err-require_directory.result c.from_residual-in_err-require_directory.ensures.1

pub returns-in_err-require_directory-clause-cause : goal.returns-in_err-require_directory-clause-cause
returns-in_err-require_directory-clause-cause g c =
    cause_refused (g.D.Tape.tape c.args.disk.now) (g.D.Tape.tape c.find_dir.new.disk) c.in_err-require_directory.field-0.0 refusal.NotADirectory c.from_residual-in_err-require_directory.result c.from_residual-in_err-require_directory.ensures.1 (by_test (not (is_directory c.in_ok-dir.dir.fid)) c.in_err-require_directory.field-0.0 refusal.NotADirectory c.in_err-require_directory.ensures).1 c.in_ok-dir.ensures.cause

pub returns-in_err-require_directory-clause-want : goal.returns-in_err-require_directory-clause-want
returns-in_err-require_directory-clause-want g c =
    λ told. not_wanted_refused c.in_err-require_directory.field-0.0 refusal.NotADirectory c.from_residual-in_err-require_directory.result c.from_residual-in_err-require_directory.ensures.1 (by_test (not (is_directory c.in_ok-dir.dir.fid)) c.in_err-require_directory.field-0.0 refusal.NotADirectory c.in_err-require_directory.ensures).1

pub returns-clause-cause : goal.returns-clause-cause
returns-clause-cause g c = cause_sooner (g.D.Tape.tape c.args.disk.now) (g.D.Tape.tape c.find_dir.new.disk) (g.D.Tape.tape c.plan_named.new.disk) c.plan_named.result c.in_ok-dir.ensures.cause c.plan_named.ensures.cause

pub returns-clause-want : goal.returns-clause-want
returns-clause-want g c = c.plan_named.ensures.want

pub returns-in_err-require_directory-clause-misled : goal.returns-in_err-require_directory-clause-misled
returns-in_err-require_directory-clause-misled g c = λ told sound.
    let p = pack (g.D.Tape.tape c.args.disk.now) in
    let t = by_test (not (is_directory c.in_ok-dir.dir.fid)) c.in_err-require_directory.field-0.0 refusal.NotADirectory c.in_err-require_directory.ensures in
    subst (λ r. IfHint r (HintFailing p [] (files_named (line.Make c.args.path.now) (read_as p)))) (sym (error_is c.from_residual-in_err-require_directory.result c.from_residual-in_err-require_directory.ensures.1 ∙ ap Err t.1)) tt
