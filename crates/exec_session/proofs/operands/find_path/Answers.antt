use Rattle.std.proofs.Common.{◌≡◌, ◌+◌, ℕ, Bool, true, List, [], ◌∷◌, Option, Some, None, refl, sym, ap, subst, ◌∙◌, arith}
use Rattle.std.specs.Option.{unwrap_or}
use Rattle.alto_words.specs.Fid.{is_directory, sys_dir}
use Rattle.disk_records.specs.declared.records.Page.{Page}
use Rattle.disk_records.specs.declared.records.Place.{Place}
use Rattle.disk_records.specs.Tapes.{pack}
use Rattle.disk_records.specs.Packs.{Pack}
use Rattle.disk_records.proofs.Looking.{looks_pack}
use Rattle.directory.specs.Asked.{DirIsFound}
use Rattle.exec_words.specs.declared.line.Target.TheVariants.{ByPath}
use Rattle.exec_words.specs.declared.line.Path.{Path}
use Rattle.exec_words.specs.declared.reply.Refusal.TheVariants as refusal
use Rattle.pack_model.specs.operations.Committing.{page_of_byte}
use Rattle.pack_model.specs.reading.Model.{read_as}
use Rattle.pack_model.specs.states.Sound.{Sound}
use Rattle.page_seeking.specs.Refs.{MisledBy}
use Rattle.page_seeking.specs.Seeking.{Quick, all_listed, file_length}
use Rattle.page_seeking.specs.declared.refs.FileRef.{FileRef}
use Rattle.session_model.specs.Bounds.{AllHandy, pages_of_dir, root_pages, sought_pages}
use Rattle.session_model.specs.Finding.{fid_of, the_dir}
use Rattle.session_model.specs.Turning.{HintFailing}
use Rattle.session_model.specs.Touched.{dir_named, one_of}
use Rattle.exec_session.specs.declared.session.Session.{Session}
use Rattle.exec_session.specs.Found.{IsAtPath, IsDirOf, IsInDir, IsNoneAt, dirs_followed}
use Rattle.exec_session.proofs.Finding.{contains_second, dir_found, file_in, hint_failing, more_failing, nothing_wanted}
use Rattle.exec_session.proofs.Looking.{all_first, dir_pages, looks_about_twice, looks_about_within, quick_of_second, quick_stays, soon_twice}
use Rattle.exec_session.proofs.Stopping.{hint_of_stop, refused_as, refused_of_stop}
use Rattle.exec_session.proofs.Causing.{cause_after, cause_passed, not_wanted, refused_unwanted}
use Rattle.exec_session.proofs.Parts.{ok_of_error}
use Rattle.exec_session.proofs.operands.find_path.Goals as goal

pub returns-in_err-dir-clause-misled : goal.returns-in_err-dir-clause-misled
returns-in_err-dir-clause-misled g c = λ told sound.
    let p = pack (g.D.Tape.tape c.args.disk.now) in
    hint_of_stop FileRef (HintFailing p [] (sys_dir ∷ [])) (HintFailing p [] (dirs_followed p (ByPath c.args.path.now))) c.in_err-dir.field-0.0 c.from_residual.result c.from_residual.ensures.1
    (λ place at wanted found h. more_failing p sys_dir (dir_named (read_as p) (ByPath c.args.path.now)) place at wanted found h)
    (c.in_err-dir.ensures.misled told sound)

pub returns-then-not-is_directory-clause-absent : goal.returns-then-not-is_directory-clause-absent
returns-then-not-is_directory-clause-absent g c = λ told sound.
    let p = pack (g.D.Tape.tape c.args.disk.now) in
    let dir = c.in_ok-dir.dir.fid in
    let none = file_in (read_as p) c.args.path.now dir None (c.in_ok-dir.ensures.found told sound).is (nothing_wanted p dir c.args.path.now.wanted sound (sym c.is_directory.ensures ∙ c.if-not-is_directory.true)) in
    refused_as (IsNoneAt p (ByPath c.args.path.now)) c.refused.result refusal.NoSuchName c.refused.ensures (refl, ap fid_of none)

-- ---- in the directory that was found
module _ (p q : Pack) (path : Path) (dir : FileRef) (sound : Sound p) (same : q ≡ p) (is : IsDirOf p path.dir dir) (directory : is_directory dir.fid ≡ true) where
  there : DirIsFound p dir
  there = dir_found p dir sound is.from directory

  there_now : DirIsFound q dir
  there_now = subst (λ r. DirIsFound r dir) (sym same) there

  absent : IsInDir q dir.fid path.wanted None → IsNoneAt p (ByPath path) refusal.NoSuchName
  absent none = (refl, ap fid_of (file_in (read_as p) path dir.fid None is.is (subst (λ r. IsInDir r dir.fid path.wanted None) same none).is))

  failing : (place : Place) (at : ℕ) (wanted : Page) (found : Option (List ℕ)) → MisledBy q [] dir.fid place at wanted found → HintFailing p [] (dirs_followed p (ByPath path)) place at wanted found
  failing place at wanted found by =
      subst (λ ds. HintFailing p [] (sys_dir ∷ ds) place at wanted found) (ap one_of (sym is.is))
      (hint_failing p dir.fid (sys_dir ∷ dir.fid ∷ []) place at wanted found sound (contains_second sys_dir dir.fid []) (subst (λ r. MisledBy r [] dir.fid place at wanted found) same by))

  at_path : (file : FileRef) (name : List ℕ) → IsInDir q dir.fid path.wanted (Some (file, name)) → IsAtPath p path (record { file = file; dir = dir; name = name })
  at_path file name found =
      let at = subst (λ r. IsInDir r dir.fid path.wanted (Some (file, name))) same found in
      record { dir = is; directory = directory; entry = file_in (read_as p) path dir.fid (Some (file.fid, name)) is.is at.is; from = at.from }

  pages : pages_of_dir (read_as p) (the_dir (read_as p) path) ≡ page_of_byte (file_length p dir.fid)
  pages = ap (λ d. pages_of_dir (read_as p) (unwrap_or d sys_dir)) is.is ∙ dir_pages p dir.fid sound there.living directory

  handy_there : {busy : List Bool} (s : Session) → AllHandy p busy (all_listed s.hints.cache) (dirs_followed p (ByPath path)) → Quick p dir.fid s.hints.cache
  handy_there {busy} s handy = quick_of_second s sys_dir dir.fid [] (subst (λ ds. AllHandy p busy (all_listed s.hints.cache) (sys_dir ∷ ds)) (ap one_of is.is) handy)

-- ---- it isn't read
pub returns-in_err-entry-clause-absent : goal.returns-in_err-entry-clause-absent
returns-in_err-entry-clause-absent g c = λ told sound.
    refused_of_stop (Option (FileRef × List ℕ)) (λ r. ⊥) (IsNoneAt (pack (g.D.Tape.tape c.args.disk.now)) (ByPath c.args.path.now)) c.in_err-entry.field-0.0 c.from_residual-in_err-entry.result c.from_residual-in_err-entry.ensures.1 (λ r none. absurd none) c.in_err-entry.ensures.unrefused

pub returns-in_err-entry-clause-misled : goal.returns-in_err-entry-clause-misled
returns-in_err-entry-clause-misled g c = λ told sound.
    let p = pack (g.D.Tape.tape c.args.disk.now) in
    let q = pack (g.D.Tape.tape c.find_dir.new.disk) in
    let same = looks_pack c.in_ok-dir.ensures.looks.looks told in
    let is = c.in_ok-dir.ensures.found told sound in
    let directory = sym c.is_directory.ensures ∙ c.if-not-is_directory.false in
    hint_of_stop (Option (FileRef × List ℕ)) (MisledBy q [] c.in_ok-dir.dir.fid) (HintFailing p [] (dirs_followed p (ByPath c.args.path.now))) c.in_err-entry.field-0.0 c.from_residual-in_err-entry.result c.from_residual-in_err-entry.ensures.1
    (failing p q c.args.path.now c.in_ok-dir.dir sound same is directory)
    (c.in_err-entry.ensures.misled told (there_now p q c.args.path.now c.in_ok-dir.dir sound same is directory))

pub returns-in_err-entry-clause-looks : goal.returns-in_err-entry-clause-looks
returns-in_err-entry-clause-looks g c = looks_about_twice 8596750336 (omega arith) c.in_ok-dir.ensures.looks c.in_err-entry.ensures.looks

-- ---- it has no such entry
pub returns-in-None-clause-absent : goal.returns-in-None-clause-absent
returns-in-None-clause-absent g c = λ told sound.
    let p = pack (g.D.Tape.tape c.args.disk.now) in
    let q = pack (g.D.Tape.tape c.find_dir.new.disk) in
    let same = looks_pack c.in_ok-dir.ensures.looks.looks told in
    let is = c.in_ok-dir.ensures.found told sound in
    let directory = sym c.is_directory.ensures ∙ c.if-not-is_directory.false in
    let found = c.in_ok-entry.ensures.found told (subst Sound (sym same) sound) (there_now p q c.args.path.now c.in_ok-dir.dir sound same is directory) in
    refused_as (IsNoneAt p (ByPath c.args.path.now)) c.refused-in-None.result refusal.NoSuchName c.refused-in-None.ensures
    (absent p q c.args.path.now c.in_ok-dir.dir sound same is directory (subst (IsInDir q c.in_ok-dir.dir.fid c.args.path.now.wanted) c.in-None.is found))

pub returns-in-None-clause-looks : goal.returns-in-None-clause-looks
returns-in-None-clause-looks g c = looks_about_twice 8596750336 (omega arith) c.in_ok-dir.ensures.looks c.in_ok-entry.ensures.looks

-- ---- it has one
pub returns-in-Some-clause-found : goal.returns-in-Some-clause-found
returns-in-Some-clause-found g c = λ told sound.
    let p = pack (g.D.Tape.tape c.args.disk.now) in
    let q = pack (g.D.Tape.tape c.find_dir.new.disk) in
    let same = looks_pack c.in_ok-dir.ensures.looks.looks told in
    let is = c.in_ok-dir.ensures.found told sound in
    let directory = sym c.is_directory.ensures ∙ c.if-not-is_directory.false in
    let found = c.in_ok-entry.ensures.found told (subst Sound (sym same) sound) (there_now p q c.args.path.now c.in_ok-dir.dir sound same is directory) in
    at_path p q c.args.path.now c.in_ok-dir.dir sound same is directory c.in-Some.entry.0 c.in-Some.entry.1 (subst (IsInDir q c.in_ok-dir.dir.fid c.args.path.now.wanted) c.in-Some.is found)

pub returns-in-Some-clause-looks : goal.returns-in-Some-clause-looks
returns-in-Some-clause-looks g c = looks_about_twice 8596750336 (omega arith) c.in_ok-dir.ensures.looks c.in_ok-entry.ensures.looks

pub returns-in-Some-clause-quick : goal.returns-in-Some-clause-quick
returns-in-Some-clause-quick g c = λ told handy.
    let old = g.D.Tape.tape c.args.disk.now in
    let mid = g.D.Tape.tape c.find_dir.new.disk in
    let new = g.D.Tape.tape c.find_in.new.disk in
    let p = pack old in
    let q = pack mid in
    let m = read_as p in
    let path = c.args.path.now in
    let dir = c.in_ok-dir.dir in
    let there = c.in_ok-dir.ensures.looks in
    let sound = handy.sound in
    let same = looks_pack there.looks told in
    let is = c.in_ok-dir.ensures.found told sound in
    let directory = sym c.is_directory.ensures ∙ c.if-not-is_directory.false in
    let quick = quick_stays dir.fid there told (handy_there p q path dir sound same is directory c.args.session.now handy) in
    let first = c.in_ok-dir.ensures.quick told (all_first c.args.session.now sys_dir (dir_named m (ByPath path)) handy) in
    let size : pages_of_dir m (the_dir m path) ≡ page_of_byte (file_length q dir.fid) = pages p q path dir sound same is directory ∙ ap (λ r. page_of_byte (file_length r dir.fid)) (sym same) in
    soon_twice (root_pages m path.dir + 1) (page_of_byte (file_length q dir.fid) + 1) (sought_pages m path + 2) old mid new (omega (arith, size)) there.looked c.in_ok-entry.ensures.looks.looked first (c.in_ok-entry.ensures.quick told quick)

pub returns-in_err-dir-clause-found : goal.returns-in_err-dir-clause-found
returns-in_err-dir-clause-found g c = λ told sound. ok_of_error _ _ c.from_residual.result c.from_residual.ensures.1

pub returns-in_err-dir-clause-quick : goal.returns-in_err-dir-clause-quick
returns-in_err-dir-clause-quick g c = λ told handy. ok_of_error _ _ c.from_residual.result c.from_residual.ensures.1

pub returns-in_err-dir-clause-cause : goal.returns-in_err-dir-clause-cause
returns-in_err-dir-clause-cause g c = cause_passed (g.D.Tape.tape c.args.disk.now) (g.D.Tape.tape c.find_dir.new.disk) c.in_err-dir.field-0.0 c.from_residual.result c.from_residual.ensures.1 c.in_err-dir.ensures.cause

pub returns-in_err-dir-clause-want : goal.returns-in_err-dir-clause-want
returns-in_err-dir-clause-want g c = λ told. not_wanted FileRef c.in_err-dir.field-0.0 c.from_residual.result c.from_residual.ensures.1 (c.in_err-dir.ensures.want told)

pub returns-in_err-entry-clause-found : goal.returns-in_err-entry-clause-found
returns-in_err-entry-clause-found g c = λ told sound. ok_of_error _ _ c.from_residual-in_err-entry.result c.from_residual-in_err-entry.ensures.1

pub returns-in_err-entry-clause-quick : goal.returns-in_err-entry-clause-quick
returns-in_err-entry-clause-quick g c = λ told handy. ok_of_error _ _ c.from_residual-in_err-entry.result c.from_residual-in_err-entry.ensures.1

pub returns-in_err-entry-clause-cause : goal.returns-in_err-entry-clause-cause
returns-in_err-entry-clause-cause g c =
    cause_after (g.D.Tape.tape c.args.disk.now) (g.D.Tape.tape c.find_dir.new.disk) (g.D.Tape.tape c.find_in.new.disk) c.in_err-entry.field-0.0 c.from_residual-in_err-entry.result c.from_residual-in_err-entry.ensures.1 c.in_ok-dir.ensures.cause c.in_err-entry.ensures.cause

pub returns-in_err-entry-clause-want : goal.returns-in_err-entry-clause-want
returns-in_err-entry-clause-want g c = λ told. not_wanted (Option (FileRef × List ℕ)) c.in_err-entry.field-0.0 c.from_residual-in_err-entry.result c.from_residual-in_err-entry.ensures.1 (c.in_err-entry.ensures.want told)

pub returns-in_err-dir-clause-looks : goal.returns-in_err-dir-clause-looks
returns-in_err-dir-clause-looks g c = looks_about_within 8596750336 (omega arith) c.in_err-dir.ensures.looks

pub returns-then-not-is_directory-clause-found : goal.returns-then-not-is_directory-clause-found
returns-then-not-is_directory-clause-found g c = λ told sound. rw c.refused.ensures tt

pub returns-then-not-is_directory-clause-misled : goal.returns-then-not-is_directory-clause-misled
returns-then-not-is_directory-clause-misled g c = λ told sound. rw c.refused.ensures tt

pub returns-then-not-is_directory-clause-cause : goal.returns-then-not-is_directory-clause-cause
returns-then-not-is_directory-clause-cause g c = rw c.refused.ensures c.in_ok-dir.ensures.cause

pub returns-then-not-is_directory-clause-want : goal.returns-then-not-is_directory-clause-want
returns-then-not-is_directory-clause-want g c = λ told. refused_unwanted c.refused.result refusal.NoSuchName c.refused.ensures

pub returns-then-not-is_directory-clause-looks : goal.returns-then-not-is_directory-clause-looks
returns-then-not-is_directory-clause-looks g c = looks_about_within 8596750336 (omega arith) c.in_ok-dir.ensures.looks

pub returns-then-not-is_directory-clause-quick : goal.returns-then-not-is_directory-clause-quick
returns-then-not-is_directory-clause-quick g c = λ told handy. rw c.refused.ensures tt

pub returns-in-Some-clause-absent : goal.returns-in-Some-clause-absent
returns-in-Some-clause-absent g c = λ told sound. tt

pub returns-in-Some-clause-misled : goal.returns-in-Some-clause-misled
returns-in-Some-clause-misled g c = λ told sound. tt

pub returns-in-Some-clause-cause : goal.returns-in-Some-clause-cause
returns-in-Some-clause-cause g c = c.in_ok-entry.ensures.cause ∙ c.in_ok-dir.ensures.cause

pub returns-in-Some-clause-want : goal.returns-in-Some-clause-want
returns-in-Some-clause-want g c = λ told is. cc
