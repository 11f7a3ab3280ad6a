use Rattle.std.proofs.Common.{ℕ, List, [], ◌∷◌, Err, inl, refl, sym, ap, subst, ◌∙◌, ◌+◌, arith}
use Rattle.alto_words.specs.Fid.{sys_dir}
use Rattle.alto_words.specs.declared.wanted.Wanted.TheVariants.{Exact}
use Rattle.disk_records.specs.Tapes.{pack}
use Rattle.pack_model.specs.reading.Model.{read_as}
use Rattle.session_model.specs.Bounds.{root_pages}
use Rattle.session_model.specs.Finding.{dir_of, fid_of}
use Rattle.page_seeking.specs.Refs.{MisledBy}
use Rattle.page_seeking.specs.declared.refs.FileRef.{FileRef}
use Rattle.session_model.specs.Turning.{HintFailing}
use Rattle.exec_session.specs.Found.{IsNoDirOf, root_ref}
use Rattle.exec_session.specs.Meant.{IsSoon}
use Rattle.exec_session.proofs.Finding.{contains_first, hint_failing, looked_up, looked_up_none, root_found}
use Rattle.exec_session.proofs.Looking.{dir_pages, hints_looked, looks_about_none, looks_about_within, quick_of_first}
use Rattle.exec_session.proofs.Stopping.{hint_of_dir, refused_by_lookup}
use Rattle.exec_session.proofs.Causing.{cause_by_dir, cause_passed, not_wanted_by_dir}
use Rattle.exec_session.specs.Stops.{stop_of_dir}
use Rattle.disk_records.specs.Causes.{never, other}
use Rattle.exec_session.proofs.Parts.{ok_of_error}
use Rattle.exec_session.proofs.operands.find_dir.Goals as goal

pub returns-in_err-file-clause-absent : goal.returns-in_err-file-clause-absent
returns-in_err-file-clause-absent g c = λ told sound.
    let p = pack (g.D.Tape.tape c.args.disk.now) in
    let there = root_found p sound in
    refused_by_lookup (IsNoDirOf p c.args.dir.now) (g.D.Tape.tape c.args.disk.now) (g.D.Tape.tape c.lookup.new.disk) c.in_err-file.field-0.0 c.from_residual.result c.from_residual.ensures.1 c.in_err-file.ensures.cause
    (λ none. (refl, ap (dir_of (read_as p)) c.in-Some.is ∙ ap fid_of (looked_up_none p root_ref (Exact c.in-Some.name) sound there (c.in_err-file.ensures.absent told there (ap Err none)))))

pub returns-in_err-file-clause-misled : goal.returns-in_err-file-clause-misled
returns-in_err-file-clause-misled g c = λ told sound.
    let p = pack (g.D.Tape.tape c.args.disk.now) in
    hint_of_dir (FileRef × List ℕ) (MisledBy p [] sys_dir) (HintFailing p [] (sys_dir ∷ [])) c.in_err-file.field-0.0 c.from_residual.result c.from_residual.ensures.1
    (λ place at wanted found by. hint_failing p sys_dir (sys_dir ∷ []) place at wanted found sound (contains_first sys_dir []) by)
    (c.in_err-file.ensures.misled told (root_found p sound))

pub returns-clause-found : goal.returns-clause-found
returns-clause-found g c = λ told sound.
    let p = pack (g.D.Tape.tape c.args.disk.now) in
    let there = root_found p sound in
    let at = looked_up p root_ref (Exact c.in-Some.name) (c.in_ok-file.file, c.in_ok-file.field-0-1) sound there (c.in_ok-file.ensures.found told there) in
    record { is = ap (dir_of (read_as p)) c.in-Some.is ∙ ap fid_of at.is; from = at.from }

pub returns-clause-quick : goal.returns-clause-quick
returns-clause-quick g c = λ told handy.
    let p = pack (g.D.Tape.tape c.args.disk.now) in
    let pages = ap (root_pages (read_as p)) c.in-Some.is ∙ dir_pages p sys_dir handy.sound (root_found p handy.sound).living refl in
    subst (λ n. IsSoon (n + 1) (g.D.Tape.tape c.args.disk.now) (g.D.Tape.tape c.lookup.new.disk) c.args.session.now (record c.args.session.now { hints = c.lookup.new.hints })) (sym pages) (c.in_ok-file.ensures.quick told (quick_of_first c.args.session.now sys_dir [] handy))

pub returns-in_err-file-clause-found : goal.returns-in_err-file-clause-found
returns-in_err-file-clause-found g c = λ told sound. ok_of_error _ _ c.from_residual.result c.from_residual.ensures.1

pub returns-in_err-file-clause-quick : goal.returns-in_err-file-clause-quick
returns-in_err-file-clause-quick g c = λ told handy. ok_of_error _ _ c.from_residual.result c.from_residual.ensures.1

pub returns-in_err-file-clause-cause : goal.returns-in_err-file-clause-cause
returns-in_err-file-clause-cause g c = cause_passed (g.D.Tape.tape c.args.disk.now) (g.D.Tape.tape c.lookup.new.disk) (stop_of_dir c.in_err-file.field-0.0) c.from_residual.result c.from_residual.ensures.1 (cause_by_dir other never never tt tt tt (g.D.Tape.tape c.args.disk.now) (g.D.Tape.tape c.lookup.new.disk) c.in_err-file.field-0.0 c.in_err-file.ensures.cause)

pub returns-in_err-file-clause-want : goal.returns-in_err-file-clause-want
returns-in_err-file-clause-want g c = λ told. not_wanted_by_dir (FileRef × List ℕ) c.in_err-file.field-0.0 c.from_residual.result c.from_residual.ensures.1 (c.in_err-file.ensures.want told)

pub returns-in_err-file-clause-looks : goal.returns-in_err-file-clause-looks
returns-in_err-file-clause-looks g c = looks_about_within 4298375168 (omega arith) (hints_looked c.args.session.now c.lookup.new.hints c.in_err-file.ensures.looks c.in_err-file.ensures.table c.in_err-file.ensures.refused c.in_err-file.ensures.handy)

pub returns-clause-absent : goal.returns-clause-absent
returns-clause-absent g c = λ told sound. tt

pub returns-clause-misled : goal.returns-clause-misled
returns-clause-misled g c = λ told sound. tt

pub returns-clause-cause : goal.returns-clause-cause
returns-clause-cause g c = c.in_ok-file.ensures.cause

pub returns-clause-want : goal.returns-clause-want
returns-clause-want g c = λ told is. cc

pub returns-clause-looks : goal.returns-clause-looks
returns-clause-looks g c = looks_about_within 4298375168 (omega arith) (hints_looked c.args.session.now c.lookup.new.hints c.in_ok-file.ensures.looks c.in_ok-file.ensures.table c.in_ok-file.ensures.refused c.in_ok-file.ensures.handy)

-- SysDir itself
pub returns-in_default-clause-absent : goal.returns-in_default-clause-absent
returns-in_default-clause-absent g c = λ told sound. tt

pub returns-in_default-clause-misled : goal.returns-in_default-clause-misled
returns-in_default-clause-misled g c = λ told sound. tt

pub returns-in_default-clause-cause : goal.returns-in_default-clause-cause
returns-in_default-clause-cause g c = refl

pub returns-in_default-clause-want : goal.returns-in_default-clause-want
returns-in_default-clause-want g c = λ told is. cc

pub returns-in_default-clause-looks : goal.returns-in_default-clause-looks
returns-in_default-clause-looks g c = looks_about_none 4298375168 (g.D.Tape.tape c.args.disk.now) c.args.session.now

pub returns-in_default-clause-quick : goal.returns-in_default-clause-quick
returns-in_default-clause-quick g c = λ told handy. inl (omega arith)
