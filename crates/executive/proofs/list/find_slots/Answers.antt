use Rattle.std.proofs.Common.{◌*◌, not, [], ◌∷◌, Err, arith, sym, subst, ◌∙◌}
use Rattle.alto_words.specs.Fid.{is_directory, sys_dir}
use Rattle.directory.specs.Errors.{IfListMisled}
use Rattle.dir_slots.specs.Items.{items_of}
use Rattle.disk_records.proofs.Looking.{looks_pack}
use Rattle.disk_records.specs.Tapes.{pack}
use Rattle.exec_words.specs.Texts.{list_text}
use Rattle.exec_words.specs.declared.line.Line.TheVariants as line
use Rattle.exec_words.specs.declared.reply.Refusal.TheVariants as refusal
use Rattle.page_seeking.specs.Refs.{MisledBy}
use Rattle.page_seeking.specs.declared.refs.FileRef.{FileRef}
use Rattle.pack_model.specs.reading.Model.{read_as}
use Rattle.directory.specs.Asked.{DirIsFound}
use Rattle.directory.specs.Found.{AreSlots}
use Rattle.exec_session.specs.Found.{IsNoDirOf}
use Rattle.exec_session.proofs.Finding.{dir_found}
use Rattle.exec_session.proofs.Looking.{hints_looked, looks_about_twice}
use Rattle.exec_session.proofs.OrdinaryFiles.{ok_test, by_test}
use Rattle.executive.proofs.Names.{is_dir, list_said, names_among, no_dir_refused, wrong_dir_refused}
use Rattle.executive.proofs.Passing.{root_touches, test_refused, touches_dir, unfound, unlisted, looks_most}
use Rattle.exec_session.proofs.Causing.{cause_passed, cause_refused}
use Rattle.executive.proofs.list.find_slots.Goals as goal

pub returns-in_err-dir-clause-reads : goal.returns-in_err-dir-clause-reads
returns-in_err-dir-clause-reads g c = λ told sound.
    let p = pack (g.D.Tape.tape c.args.disk.now) in
    let name = c.args.dir.now in
    unfound FileRef p (line.ListNames name) (λ slots. list_text (names_among (items_of slots.items))) (sys_dir ∷ []) (IsNoDirOf p name) c.in_err-dir.field-0.0 c.from_residual.result c.from_residual.ensures.1
    (λ w x taken none. no_dir_refused p w name x taken none)
    (λ w f h. root_touches (read_as p) w name f h)
    (c.in_err-dir.ensures.absent told sound) (c.in_err-dir.ensures.misled told sound)

pub returns-in_err-require_directory-clause-reads : goal.returns-in_err-require_directory-clause-reads
returns-in_err-require_directory-clause-reads g c = λ told sound.
    let p = pack (g.D.Tape.tape c.args.disk.now) in
    let name = c.args.dir.now in
    let d = c.in_ok-dir.dir.fid in
    test_refused p (line.ListNames name) (λ slots. list_text (names_among (items_of slots.items))) (not (is_directory d)) refusal.NotADirectory c.in_err-require_directory.field-0.0 c.from_residual-in_err-require_directory.result c.from_residual-in_err-require_directory.ensures.1 c.in_err-require_directory.ensures
    (λ w taken is. wrong_dir_refused p w name d taken (c.in_ok-dir.ensures.found told sound).is is)

pub returns-in_err-list-clause-reads : goal.returns-in_err-list-clause-reads
returns-in_err-list-clause-reads g c = λ told sound.
    let p = pack (g.D.Tape.tape c.args.disk.now) in
    let name = c.args.dir.now in
    let d = c.in_ok-dir.dir.fid in
    let at = c.in_ok-dir.ensures.found told sound in
    let same = looks_pack c.find_dir.ensures.looks.looks told in
    let directory = is_dir (is_directory d) (ok_test (not (is_directory d)) c.in_ok-require_directory.field-0 refusal.NotADirectory c.in_ok-require_directory.ensures) in
    unlisted p (line.ListNames name) (λ slots. list_text (names_among (items_of slots.items))) d (g.D.Tape.tape c.find_dir.new.disk) (g.D.Tape.tape c.list.new.disk) c.in_err-list.field-0.0 c.from_residual-in_err-list.result c.from_residual-in_err-list.ensures.1 sound
    (λ w. touches_dir (read_as p) w name d at.is) c.in_err-list.ensures.cause
    (subst (λ q. IfListMisled {T = Unit {0}} (Err c.in_err-list.field-0.0) (MisledBy q [] d)) same (c.in_err-list.ensures.misled told (subst (λ q. DirIsFound q c.in_ok-dir.dir) (sym same) (dir_found p c.in_ok-dir.dir sound at.from directory))))

pub returns-clause-reads : goal.returns-clause-reads
returns-clause-reads g c = λ told sound w taken.
    let p = pack (g.D.Tape.tape c.args.disk.now) in
    let name = c.args.dir.now in
    let d = c.in_ok-dir.dir.fid in
    let at = c.in_ok-dir.ensures.found told sound in
    let same = looks_pack c.find_dir.ensures.looks.looks told in
    let directory = is_dir (is_directory d) (ok_test (not (is_directory d)) c.in_ok-require_directory.field-0 refusal.NotADirectory c.in_ok-require_directory.ensures) in
    let there = dir_found p c.in_ok-dir.dir sound at.from directory in
    record {
      said = list_said p w name d c.in_ok-list.field-0.items sound taken at.is directory there.living
          (subst (λ q. AreSlots q d c.in_ok-list.field-0.items) same (c.in_ok-list.ensures.found told (subst (λ q. DirIsFound q c.in_ok-dir.dir) (sym same) there)));
      refused = tt;
      misled = tt;
    }

pub returns-in_err-list-clause-looks : goal.returns-in_err-list-clause-looks
returns-in_err-list-clause-looks g c = looks_about_twice (65588 * 131072) (omega arith) c.find_dir.ensures.looks (hints_looked c.find_dir.new.session c.list.new.hints c.list.ensures.looks c.list.ensures.table c.list.ensures.refused c.list.ensures.handy)

pub returns-clause-looks : goal.returns-clause-looks
returns-clause-looks g c = looks_about_twice (65588 * 131072) (omega arith) c.find_dir.ensures.looks (hints_looked c.find_dir.new.session c.list.new.hints c.list.ensures.looks c.list.ensures.table c.list.ensures.refused c.list.ensures.handy)

pub returns-in_err-dir-clause-cause : goal.returns-in_err-dir-clause-cause
returns-in_err-dir-clause-cause g c = cause_passed (g.D.Tape.tape c.args.disk.now) (g.D.Tape.tape c.find_dir.new.disk) c.in_err-dir.field-0.0 c.from_residual.result c.from_residual.ensures.1 c.in_err-dir.ensures.cause

pub returns-in_err-require_directory-clause-cause : goal.returns-in_err-require_directory-clause-cause
returns-in_err-require_directory-clause-cause g c =
    cause_refused (g.D.Tape.tape c.args.disk.now) (g.D.Tape.tape c.find_dir.new.disk) c.in_err-require_directory.field-0.0 refusal.NotADirectory c.from_residual-in_err-require_directory.result c.from_residual-in_err-require_directory.ensures.1 (by_test (not (is_directory c.in_ok-dir.dir.fid)) c.in_err-require_directory.field-0.0 refusal.NotADirectory c.in_err-require_directory.ensures).1 c.in_ok-dir.ensures.cause

pub returns-in_err-dir-clause-looks : goal.returns-in_err-dir-clause-looks
returns-in_err-dir-clause-looks g c = looks_most (65588 * 131072) (omega arith) c.in_err-dir.ensures.looks

pub returns-in_err-require_directory-clause-looks : goal.returns-in_err-require_directory-clause-looks
returns-in_err-require_directory-clause-looks g c = looks_most (65588 * 131072) (omega arith) c.in_ok-dir.ensures.looks

pub returns-clause-cause : goal.returns-clause-cause
returns-clause-cause g c = c.in_ok-list.ensures.cause ∙ c.in_ok-dir.ensures.cause
