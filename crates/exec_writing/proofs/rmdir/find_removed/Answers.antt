use Rattle.std.proofs.Common.{◌≡◌, ◌*◌, ◌∙◌, Err, Some, [], ap, arith, false, not, refl, subst, sym, true}
use Rattle.alto_words.specs.Fid.{is_directory, is_system}
use Rattle.directory.specs.Asked.{DirIsFound}
use Rattle.disk_records.proofs.Looking.{looks_pack}
use Rattle.disk_records.specs.Packs.{Pack}
use Rattle.disk_records.specs.Tapes.{pack}
use Rattle.exec_words.specs.declared.line.Line.TheVariants as line
use Rattle.exec_words.specs.declared.reply.Refusal.{Refusal}
use Rattle.exec_words.specs.declared.reply.Refusal.TheVariants as refusal
use Rattle.page_seeking.specs.Refs.{MisledBy}
use Rattle.session_model.specs.Keeping.{world_of}
use Rattle.session_model.specs.Operands.{in_root}
use Rattle.exec_session.proofs.Looking.{looks_about_twice}
use Rattle.exec_session.proofs.OrdinaryFiles.{ok_test, by_test}
use Rattle.exec_session.specs.Meant.{IfHint, IfRefused, kept}
use Rattle.exec_writing.specs.Dropping.{HasEntries}
use Rattle.exec_writing.proofs.DropFinding.{is_directory_found, rmdir_absent, rmdir_entries, rmdir_found, rmdir_no_directory, rmdir_system, test_refused, unfound, unlisted}
use Rattle.exec_session.proofs.Causing.{cause_refused}
use Rattle.exec_steps.proofs.Frames.{cause_after, cause_passed, looks_about_within}
use Rattle.exec_writing.proofs.rmdir.find_removed.Goals as goal

pub returns-in_err-found-clause-finds : goal.returns-in_err-found-clause-finds
returns-in_err-found-clause-finds g c = λ told sound taken.
    let p = pack (g.D.Tape.tape c.args.disk.now) in
    let w = world_of (kept c.args.session.now) in
    let name = c.args.name.now in
    unfound p (line.RemoveDir name) w (in_root name) c.in_err-found.field-0.0 c.from_residual.result c.from_residual.ensures.1 refl (rmdir_absent p w name taken) (c.in_err-found.ensures.absent told sound) (c.in_err-found.ensures.misled told sound)

pub returns-in_err-require_directory-clause-finds : goal.returns-in_err-require_directory-clause-finds
returns-in_err-require_directory-clause-finds g c = λ told sound taken.
    let p = pack (g.D.Tape.tape c.args.disk.now) in
    let w = world_of (kept c.args.session.now) in
    let name = c.args.name.now in
    let found = c.in_ok-found.found in
    test_refused p (line.RemoveDir name) w (not (is_directory found.file.fid)) refusal.NotADirectory c.in_err-require_directory.field-0.0 c.from_residual-in_err-require_directory.result c.from_residual-in_err-require_directory.ensures.1 c.in_err-require_directory.ensures
    (rmdir_no_directory p w name taken found sound (c.in_ok-found.ensures.found told sound))

pub returns-in_err-refuse_system-clause-finds : goal.returns-in_err-refuse_system-clause-finds
returns-in_err-refuse_system-clause-finds g c = λ told sound taken.
    let p = pack (g.D.Tape.tape c.args.disk.now) in
    let w = world_of (kept c.args.session.now) in
    let name = c.args.name.now in
    let found = c.in_ok-found.found in
    let directory = ok_test (not (is_directory found.file.fid)) c.in_ok-require_directory.field-0 refusal.NotADirectory c.in_ok-require_directory.ensures in
    test_refused p (line.RemoveDir name) w (is_system found.file.fid) refusal.SystemFile c.in_err-refuse_system.field-0.0 c.from_residual-in_err-refuse_system.result c.from_residual-in_err-refuse_system.ensures.1 c.in_err-refuse_system.ensures
    (rmdir_system p w name taken found sound (c.in_ok-found.ensures.found told sound) directory)

pub returns-in_err-refuse_entries-clause-finds : goal.returns-in_err-refuse_entries-clause-finds
returns-in_err-refuse_entries-clause-finds g c = λ told sound taken.
    let p = pack (g.D.Tape.tape c.args.disk.now) in
    let w = world_of (kept c.args.session.now) in
    let name = c.args.name.now in
    let found = c.in_ok-found.found in
    let at = c.in_ok-found.ensures.found told sound in
    let same = looks_pack c.find_path.ensures.looks.looks told in
    let directory = ok_test (not (is_directory found.file.fid)) c.in_ok-require_directory.field-0 refusal.NotADirectory c.in_ok-require_directory.ensures in
    let system = ok_test (is_system found.file.fid) c.in_ok-refuse_system.field-0 refusal.SystemFile c.in_ok-refuse_system.ensures in
    let there = subst (λ (q : Pack). DirIsFound q found.file) (sym same) (is_directory_found p w name taken found sound at directory) in
    unlisted (Unit {0}) p (line.RemoveDir name) w (in_root name) found (λ (r : Refusal). (r ≡ refusal.NotEmpty) × HasEntries p found.file.fid true) c.in_err-refuse_entries.field-0.0 c.from_residual-in_err-refuse_entries.result c.from_residual-in_err-refuse_entries.ensures.1 sound at refl
    (λ r h. rmdir_entries p w name taken found sound at directory system h.1 ∙ ap Some (sym h.0))
    (subst (λ (q : Pack). IfRefused {T = Unit {0}} (Err c.in_err-refuse_entries.field-0.0) (λ (r : Refusal). (r ≡ refusal.NotEmpty) × HasEntries q found.file.fid true)) same (c.in_err-refuse_entries.ensures.refused told there))
    (subst (λ (q : Pack). IfHint {T = Unit {0}} (Err c.in_err-refuse_entries.field-0.0) (MisledBy q [] found.file.fid)) same (c.in_err-refuse_entries.ensures.misled told there))

pub returns-clause-finds : goal.returns-clause-finds
returns-clause-finds g c = λ told sound taken.
    let p = pack (g.D.Tape.tape c.args.disk.now) in
    let w = world_of (kept c.args.session.now) in
    let name = c.args.name.now in
    let found = c.in_ok-found.found in
    let at = c.in_ok-found.ensures.found told sound in
    let same = looks_pack c.find_path.ensures.looks.looks told in
    let directory = ok_test (not (is_directory found.file.fid)) c.in_ok-require_directory.field-0 refusal.NotADirectory c.in_ok-require_directory.ensures in
    let system = ok_test (is_system found.file.fid) c.in_ok-refuse_system.field-0 refusal.SystemFile c.in_ok-refuse_system.ensures in
    let there = subst (λ (q : Pack). DirIsFound q found.file) (sym same) (is_directory_found p w name taken found sound at directory) in
    let none = subst (λ (q : Pack). HasEntries q found.file.fid false) same (c.in_ok-refuse_entries.ensures.empty told there) in
    record { found = rmdir_found p w name taken found sound at directory system none; refused = tt; misled = tt }

pub returns-in_err-refuse_entries-clause-looks : goal.returns-in_err-refuse_entries-clause-looks
returns-in_err-refuse_entries-clause-looks g c = looks_about_twice (65588 * 196608) (omega arith) c.find_path.ensures.looks c.refuse_entries.ensures.looks

pub returns-clause-looks : goal.returns-clause-looks
returns-clause-looks g c = looks_about_twice (65588 * 196608) (omega arith) c.find_path.ensures.looks c.refuse_entries.ensures.looks

pub returns-in_err-found-clause-cause : goal.returns-in_err-found-clause-cause
returns-in_err-found-clause-cause g c = cause_passed (g.D.Tape.tape c.args.disk.now) (g.D.Tape.tape c.find_path.new.disk) c.in_err-found.field-0.0 c.from_residual.result c.from_residual.ensures.1 c.in_err-found.ensures.cause

pub returns-in_err-require_directory-clause-cause : goal.returns-in_err-require_directory-clause-cause
returns-in_err-require_directory-clause-cause g c =
    cause_refused (g.D.Tape.tape c.args.disk.now) (g.D.Tape.tape c.find_path.new.disk) c.in_err-require_directory.field-0.0 refusal.NotADirectory c.from_residual-in_err-require_directory.result c.from_residual-in_err-require_directory.ensures.1 (by_test (not (is_directory c.in_ok-found.found.file.fid)) c.in_err-require_directory.field-0.0 refusal.NotADirectory c.in_err-require_directory.ensures).1 c.in_ok-found.ensures.cause

pub returns-in_err-refuse_system-clause-cause : goal.returns-in_err-refuse_system-clause-cause
returns-in_err-refuse_system-clause-cause g c =
    cause_refused (g.D.Tape.tape c.args.disk.now) (g.D.Tape.tape c.find_path.new.disk) c.in_err-refuse_system.field-0.0 refusal.SystemFile c.from_residual-in_err-refuse_system.result c.from_residual-in_err-refuse_system.ensures.1 (by_test (is_system c.in_ok-found.found.file.fid) c.in_err-refuse_system.field-0.0 refusal.SystemFile c.in_err-refuse_system.ensures).1 c.in_ok-found.ensures.cause

pub returns-in_err-refuse_entries-clause-cause : goal.returns-in_err-refuse_entries-clause-cause
returns-in_err-refuse_entries-clause-cause g c =
    cause_after (g.D.Tape.tape c.args.disk.now) (g.D.Tape.tape c.find_path.new.disk) (g.D.Tape.tape c.refuse_entries.new.disk) c.in_err-refuse_entries.field-0.0 c.from_residual-in_err-refuse_entries.result c.from_residual-in_err-refuse_entries.ensures.1 c.in_ok-found.ensures.cause c.in_err-refuse_entries.ensures.cause

pub returns-clause-cause : goal.returns-clause-cause
returns-clause-cause g c = c.in_ok-refuse_entries.ensures.cause ∙ c.in_ok-found.ensures.cause

pub returns-in_err-found-clause-looks : goal.returns-in_err-found-clause-looks
returns-in_err-found-clause-looks g c = looks_about_within (65588 * 196608) (omega arith) c.in_err-found.ensures.looks

pub returns-in_err-require_directory-clause-looks : goal.returns-in_err-require_directory-clause-looks
returns-in_err-require_directory-clause-looks g c = looks_about_within (65588 * 196608) (omega arith) c.in_ok-found.ensures.looks

pub returns-in_err-refuse_system-clause-looks : goal.returns-in_err-refuse_system-clause-looks
returns-in_err-refuse_system-clause-looks g c = looks_about_within (65588 * 196608) (omega arith) c.in_ok-found.ensures.looks
