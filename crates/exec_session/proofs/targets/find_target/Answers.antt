use Rattle.std.proofs.Common.{◌≡◌, [], IfOk, sym, ap, subst, ◌∙◌, ◌+◌}
use Rattle.disk_records.specs.Tapes.{pack}
use Rattle.exec_words.specs.declared.line.Path.{Path}
use Rattle.exec_words.specs.declared.line.Target.TheVariants.{ByPath, BySerial}
use Rattle.pack_model.specs.reading.Model.{read_as}
use Rattle.session_model.specs.Bounds.{AllHandy, sought_pages}
use Rattle.session_model.specs.Finding.{fid_of}
use Rattle.session_model.specs.Turning.{HintFailing}
use Rattle.exec_session.specs.Found.{IsAt, IsNoneAt, dirs_followed}
use Rattle.exec_session.specs.Meant.{IfHint, IfRefused, IsSoon, kept}
use Rattle.exec_session.specs.declared.operands.Found.{Found}
use Rattle.exec_session.proofs.Stopping.{hint_of_stop, never_hint, refused_of_stop}
use Rattle.exec_session.proofs.Causing.{cause_passed, not_wanted}
use Rattle.exec_session.proofs.Parts.{ok_of_error}
use Rattle.exec_session.proofs.targets.find_target.Goals as goal

-- ---- by its path
pub returns-in_err-find_path-in-ByPath-clause-found : goal.returns-in_err-find_path-in-ByPath-clause-found
returns-in_err-find_path-in-ByPath-clause-found g c = λ told sound. ok_of_error _ _ c.from_residual.result c.from_residual.ensures.1

pub returns-in_err-find_path-in-ByPath-clause-absent : goal.returns-in_err-find_path-in-ByPath-clause-absent
returns-in_err-find_path-in-ByPath-clause-absent g c = λ told sound.
    let p = pack (g.D.Tape.tape c.args.disk.now) in
    subst (λ t. IfRefused c.from_residual.result (IsNoneAt p t)) (sym c.in-ByPath.is)
    (refused_of_stop Found (IsNoneAt p (ByPath c.in-ByPath.path)) (IsNoneAt p (ByPath c.in-ByPath.path)) c.in_err-find_path-in-ByPath.field-0.0 c.from_residual.result c.from_residual.ensures.1 (λ x h. h) (c.in_err-find_path-in-ByPath.ensures.absent told sound))

pub returns-in_err-find_path-in-ByPath-clause-misled : goal.returns-in_err-find_path-in-ByPath-clause-misled
returns-in_err-find_path-in-ByPath-clause-misled g c = λ told sound.
    let p = pack (g.D.Tape.tape c.args.disk.now) in
    subst (λ t. IfHint c.from_residual.result (HintFailing p [] (dirs_followed p t))) (sym c.in-ByPath.is)
    (hint_of_stop Found (HintFailing p [] (dirs_followed p (ByPath c.in-ByPath.path))) (HintFailing p [] (dirs_followed p (ByPath c.in-ByPath.path))) c.in_err-find_path-in-ByPath.field-0.0 c.from_residual.result c.from_residual.ensures.1
    (λ place at wanted found h. h) (c.in_err-find_path-in-ByPath.ensures.misled told sound))

pub returns-in_err-find_path-in-ByPath-clause-cause : goal.returns-in_err-find_path-in-ByPath-clause-cause
returns-in_err-find_path-in-ByPath-clause-cause g c = cause_passed (g.D.Tape.tape c.args.disk.now) (g.D.Tape.tape c.find_path.new.disk) c.in_err-find_path-in-ByPath.field-0.0 c.from_residual.result c.from_residual.ensures.1 c.in_err-find_path-in-ByPath.ensures.cause

pub returns-in_err-find_path-in-ByPath-clause-want : goal.returns-in_err-find_path-in-ByPath-clause-want
returns-in_err-find_path-in-ByPath-clause-want g c = λ told. not_wanted Found c.in_err-find_path-in-ByPath.field-0.0 c.from_residual.result c.from_residual.ensures.1 (c.in_err-find_path-in-ByPath.ensures.want told)

pub returns-in_err-find_path-in-ByPath-clause-looks : goal.returns-in_err-find_path-in-ByPath-clause-looks
returns-in_err-find_path-in-ByPath-clause-looks g c = c.in_err-find_path-in-ByPath.ensures.looks

pub returns-in_err-find_path-in-ByPath-clause-quick : goal.returns-in_err-find_path-in-ByPath-clause-quick
returns-in_err-find_path-in-ByPath-clause-quick g c = λ path told is handy. ok_of_error _ _ c.from_residual.result c.from_residual.ensures.1

pub returns-in_ok-find_path-in-ByPath-clause-found : goal.returns-in_ok-find_path-in-ByPath-clause-found
returns-in_ok-find_path-in-ByPath-clause-found g c = λ told sound.
    let p = pack (g.D.Tape.tape c.args.disk.now) in
    let at = c.in_ok-find_path-in-ByPath.ensures.found told sound in
    subst (λ t. IsAt p t c.in_ok-find_path-in-ByPath.field-0.file) (sym c.in-ByPath.is) (record { is = ap fid_of at.entry; from = at.from })

pub returns-in_ok-find_path-in-ByPath-clause-absent : goal.returns-in_ok-find_path-in-ByPath-clause-absent
returns-in_ok-find_path-in-ByPath-clause-absent g c = λ told sound. tt

pub returns-in_ok-find_path-in-ByPath-clause-misled : goal.returns-in_ok-find_path-in-ByPath-clause-misled
returns-in_ok-find_path-in-ByPath-clause-misled g c = λ told sound. tt

pub returns-in_ok-find_path-in-ByPath-clause-cause : goal.returns-in_ok-find_path-in-ByPath-clause-cause
returns-in_ok-find_path-in-ByPath-clause-cause g c = c.in_ok-find_path-in-ByPath.ensures.cause

pub returns-in_ok-find_path-in-ByPath-clause-want : goal.returns-in_ok-find_path-in-ByPath-clause-want
returns-in_ok-find_path-in-ByPath-clause-want g c = λ told is. cc

pub returns-in_ok-find_path-in-ByPath-clause-looks : goal.returns-in_ok-find_path-in-ByPath-clause-looks
returns-in_ok-find_path-in-ByPath-clause-looks g c = c.in_ok-find_path-in-ByPath.ensures.looks

pub returns-in_ok-find_path-in-ByPath-clause-quick : goal.returns-in_ok-find_path-in-ByPath-clause-quick
returns-in_ok-find_path-in-ByPath-clause-quick g c = λ path told is handy.
    let old = g.D.Tape.tape c.args.disk.now in
    let new = g.D.Tape.tape c.find_path.new.disk in
    let p = pack old in
    let one = c.args.session.now in
    let both : ByPath c.in-ByPath.path ≡ ByPath path = sym c.in-ByPath.is ∙ is in
    let same : c.in-ByPath.path ≡ path = cc in
    subst (λ (x : Path). IsSoon (sought_pages (read_as p) x + 2) old new one c.find_path.new.session) same
    (c.in_ok-find_path-in-ByPath.ensures.quick told (subst (λ t. AllHandy p (kept one).busy (kept one).cache (dirs_followed p t)) c.in-ByPath.is handy))

-- ---- by its serial
pub returns-in-BySerial-clause-found : goal.returns-in-BySerial-clause-found
returns-in-BySerial-clause-found g c = λ told sound.
    let p = pack (g.D.Tape.tape c.args.disk.now) in
    subst (λ t. IfOk c.find_serial.result (IsAt p t)) (sym c.in-BySerial.is) (c.find_serial.ensures.found told sound)

pub returns-in-BySerial-clause-absent : goal.returns-in-BySerial-clause-absent
returns-in-BySerial-clause-absent g c = λ told sound.
    let p = pack (g.D.Tape.tape c.args.disk.now) in
    subst (λ t. IfRefused c.find_serial.result (IsNoneAt p t)) (sym c.in-BySerial.is) (c.find_serial.ensures.absent told sound)

pub returns-in-BySerial-clause-misled : goal.returns-in-BySerial-clause-misled
returns-in-BySerial-clause-misled g c = λ told sound. never_hint c.find_serial.result _ c.find_serial.ensures.never_misled

pub returns-in-BySerial-clause-cause : goal.returns-in-BySerial-clause-cause
returns-in-BySerial-clause-cause g c = c.find_serial.ensures.cause

pub returns-in-BySerial-clause-want : goal.returns-in-BySerial-clause-want
returns-in-BySerial-clause-want g c = λ told. c.find_serial.ensures.want told

pub returns-in-BySerial-clause-quick : goal.returns-in-BySerial-clause-quick
returns-in-BySerial-clause-quick g c = λ path told is handy.
    let both : BySerial c.in-BySerial.serial ≡ ByPath path = sym c.in-BySerial.is ∙ is in
    cc
