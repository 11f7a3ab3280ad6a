use Rattle.std.proofs.Common.{◌*◌, ◌+◌, [], Err, ℕ, arith, ap, inl, sym, subst, ◌∙◌, ◌≡◌, Some}
use Rattle.std.proofs.lemmas.List.Elements.{Contains-append_left}
use Rattle.disk_records.proofs.Looking.{looks_pack}
use Rattle.disk_records.specs.Packs.{Pack}
use Rattle.disk_records.specs.Tapes.{pack}
use Rattle.page_seeking.specs.Refs.{FileIsFrom, MisledBy}
use Rattle.page_seeking.specs.declared.refs.FileRef.{FileRef}
use Rattle.page_seeking.specs.Seeking.{LastNamed, Quick, all_listed, file_length}
use Rattle.pack_model.specs.reading.Model.{read_as}
use Rattle.pack_model.specs.states.Sound.{Sound}
use Rattle.session_model.specs.Bounds.{sought_pages}
use Rattle.session_model.specs.Finding.{file_at}
use Rattle.session_model.specs.Operands.{no_directory}
use Rattle.session_model.specs.Touched.{one_of}
use Rattle.session_model.specs.Turning.{HintFailing}
use Rattle.exec_session.specs.Found.{dirs_followed, files_followed, operand, operand_refusal}
use Rattle.exec_session.specs.Meant.{IfHint}
use Rattle.exec_session.proofs.Finding.{hint_failing}
use Rattle.exec_session.proofs.Looking.{looks_about_twice, quick_stays, soon_twice}
use Rattle.exec_session.proofs.Stopping.{hint_of_stop, refused_of_stop}
use Rattle.exec_writing.proofs.Touching.{follows_file, handy_front, handy_of}
use Rattle.exec_session.proofs.Causing.{not_wanted}
use Rattle.exec_session.proofs.Parts.{ok_of_error}
use Rattle.exec_steps.proofs.Frames.{cause_after, cause_passed, looks_about_within, never_refused}
use Rattle.exec_writing.proofs.measuring.find_measured.Goals as goal

pub returns-in_err-file-clause-misled : goal.returns-in_err-file-clause-misled
returns-in_err-file-clause-misled g c = λ told sound.
    let p = pack (g.D.Tape.tape c.args.disk.now) in
    let target = c.args.target.now in
    let files = dirs_followed p target in
    let more = one_of (file_at (read_as p) target) in
    hint_of_stop FileRef (HintFailing p [] files) (HintFailing p [] (files_followed p (operand target no_directory))) c.in_err-file.field-0.0 c.from_residual.result c.from_residual.ensures.1
    (λ place at wanted found h. record { misled = h.misled; on_disk = h.on_disk; file = Contains-append_left files more wanted.fid h.file })
    (c.in_err-file.ensures.misled told sound)

pub returns-in_err-length-clause-misled : goal.returns-in_err-length-clause-misled
returns-in_err-length-clause-misled g c = λ told sound.
    let p = pack (g.D.Tape.tape c.args.disk.now) in
    let target = c.args.target.now in
    let f = c.in_ok-file.file.fid in
    let at = c.in_ok-file.ensures.found told sound in
    let same = looks_pack c.find_ordinary.ensures.looks.looks told in
    hint_of_stop ℕ (MisledBy p [] f) (HintFailing p [] (files_followed p (operand target no_directory))) c.in_err-length.field-0.0 c.from_residual-in_err-length.result c.from_residual-in_err-length.ensures.1
    (λ place bt wanted found h. hint_failing p f (files_followed p (operand target no_directory)) place bt wanted found sound (follows_file (read_as p) target f at.is) h)
    (subst (λ (q : Pack). IfHint {T = ℕ} (Err c.in_err-length.field-0.0) (MisledBy q [] f)) same (c.in_err-length.ensures.misled told (subst Sound (sym same) sound) (subst (λ q. FileIsFrom q c.in_ok-file.file) (sym same) at.from)))

pub returns-in_err-length-clause-looks : goal.returns-in_err-length-clause-looks
returns-in_err-length-clause-looks g c = looks_about_twice (65588 * 131073) (omega arith) c.find_ordinary.ensures.looks c.length_of.ensures.looks

pub returns-clause-looks : goal.returns-clause-looks
returns-clause-looks g c = looks_about_twice (65588 * 131073) (omega arith) c.find_ordinary.ensures.looks c.length_of.ensures.looks

pub returns-clause-found : goal.returns-clause-found
returns-clause-found g c = λ told sound.
    let same = looks_pack c.find_ordinary.ensures.looks.looks told in
    record {
      at = c.in_ok-file.ensures.found told sound;
      taken = c.in_ok-file.ensures.taken told sound;
      ordinary = c.in_ok-file.ensures.ordinary;
      length = c.in_ok-length.ensures.length told (subst Sound (sym same) sound) ∙ ap (λ p. file_length p c.in_ok-file.file.fid) same;
    }

pub returns-clause-quick : goal.returns-clause-quick
returns-clause-quick g c = λ path told is handy named.
    let old = g.D.Tape.tape c.args.disk.now in
    let mid = g.D.Tape.tape c.find_ordinary.new.disk in
    let new = g.D.Tape.tape c.length_of.new.disk in
    let p = pack old in
    let m = read_as p in
    let target = c.args.target.now in
    let f = c.in_ok-file.file.fid in
    let sound = handy.sound in
    let at = c.in_ok-file.ensures.found told sound in
    let about = c.find_ordinary.ensures.looks in
    let same = looks_pack about.looks told in
    let mine : Quick p f c.args.session.now.hints.cache = record { whole = sound.whole; links = handy.links; handy = handy_of p c.args.session.now.hints.table (all_listed c.args.session.now.hints.cache) (files_followed p (operand target no_directory)) f handy (follows_file m target f at.is) } in
    let first = c.in_ok-file.ensures.quick path told is (handy_front p c.args.session.now.hints.table (all_listed c.args.session.now.hints.cache) (dirs_followed p target) (one_of (file_at m target)) handy) in
    let next = c.in_ok-length.ensures.quick told (quick_stays f about told mine) (subst (λ q. LastNamed q f) (sym same) named) in
    soon_twice (sought_pages m path + 2) 2 (sought_pages m path + 4) old mid new (omega arith) about.looked c.length_of.ensures.looks.looked first (inl next)

pub returns-in_err-file-clause-found : goal.returns-in_err-file-clause-found
returns-in_err-file-clause-found g c = λ told sound. ok_of_error (λ s. s ≡ c.in_err-file.field-0.0) _ c.from_residual.result c.from_residual.ensures.1

pub returns-in_err-file-clause-most : goal.returns-in_err-file-clause-most
returns-in_err-file-clause-most g c = ok_of_error (λ s. s ≡ c.in_err-file.field-0.0) _ c.from_residual.result c.from_residual.ensures.1

pub returns-in_err-file-clause-cause : goal.returns-in_err-file-clause-cause
returns-in_err-file-clause-cause g c = cause_passed (g.D.Tape.tape c.args.disk.now) (g.D.Tape.tape c.find_ordinary.new.disk) c.in_err-file.field-0.0 c.from_residual.result c.from_residual.ensures.1 c.in_err-file.ensures.cause

pub returns-in_err-file-clause-want : goal.returns-in_err-file-clause-want
returns-in_err-file-clause-want g c = λ told. not_wanted FileRef c.in_err-file.field-0.0 c.from_residual.result c.from_residual.ensures.1 (c.in_err-file.ensures.want told)

pub returns-in_err-length-clause-found : goal.returns-in_err-length-clause-found
returns-in_err-length-clause-found g c = λ told sound. ok_of_error (λ s. s ≡ c.in_err-length.field-0.0) _ c.from_residual-in_err-length.result c.from_residual-in_err-length.ensures.1

pub returns-in_err-length-clause-most : goal.returns-in_err-length-clause-most
returns-in_err-length-clause-most g c = ok_of_error (λ s. s ≡ c.in_err-length.field-0.0) _ c.from_residual-in_err-length.result c.from_residual-in_err-length.ensures.1

pub returns-in_err-length-clause-cause : goal.returns-in_err-length-clause-cause
returns-in_err-length-clause-cause g c =
    cause_after (g.D.Tape.tape c.args.disk.now) (g.D.Tape.tape c.find_ordinary.new.disk) (g.D.Tape.tape c.length_of.new.disk) c.in_err-length.field-0.0 c.from_residual-in_err-length.result c.from_residual-in_err-length.ensures.1 c.in_ok-file.ensures.cause c.in_err-length.ensures.cause

pub returns-in_err-length-clause-want : goal.returns-in_err-length-clause-want
returns-in_err-length-clause-want g c = λ told. not_wanted ℕ c.in_err-length.field-0.0 c.from_residual-in_err-length.result c.from_residual-in_err-length.ensures.1 (c.in_err-length.ensures.want told)

pub returns-clause-cause : goal.returns-clause-cause
returns-clause-cause g c = c.in_ok-length.ensures.cause ∙ c.in_ok-file.ensures.cause

pub returns-in_err-file-clause-looks : goal.returns-in_err-file-clause-looks
returns-in_err-file-clause-looks g c = looks_about_within (65588 * 131073) (omega arith) c.in_err-file.ensures.looks

pub returns-in_err-file-clause-refused : goal.returns-in_err-file-clause-refused
returns-in_err-file-clause-refused g c = λ told sound.
    refused_of_stop FileRef (λ r. operand_refusal (pack (g.D.Tape.tape c.args.disk.now)) (operand c.args.target.now no_directory) ≡ Some r) (λ r. operand_refusal (pack (g.D.Tape.tape c.args.disk.now)) (operand c.args.target.now no_directory) ≡ Some r) c.in_err-file.field-0.0 c.from_residual.result c.from_residual.ensures.1
    (λ r is. is) (c.in_err-file.ensures.refused told sound)

pub returns-in_err-file-clause-quick : goal.returns-in_err-file-clause-quick
returns-in_err-file-clause-quick g c = λ path told is handy. ok_of_error (λ s. s ≡ c.in_err-file.field-0.0) _ c.from_residual.result c.from_residual.ensures.1

pub returns-in_err-length-clause-refused : goal.returns-in_err-length-clause-refused
returns-in_err-length-clause-refused g c = λ told sound. never_refused ℕ (λ r. operand_refusal (pack (g.D.Tape.tape c.args.disk.now)) (operand c.args.target.now no_directory) ≡ Some r) c.in_err-length.field-0.0 c.from_residual-in_err-length.result c.from_residual-in_err-length.ensures.1 c.in_err-length.ensures.unrefused

pub returns-in_err-length-clause-quick : goal.returns-in_err-length-clause-quick
returns-in_err-length-clause-quick g c = λ path told is handy. ok_of_error (λ s. s ≡ c.in_err-length.field-0.0) _ c.from_residual-in_err-length.result c.from_residual-in_err-length.ensures.1

pub returns-clause-most : goal.returns-clause-most
returns-clause-most g c = c.in_ok-length.ensures.most

pub returns-clause-refused : goal.returns-clause-refused
returns-clause-refused g c = λ told sound. tt

pub returns-clause-misled : goal.returns-clause-misled
returns-clause-misled g c = λ told sound. tt

pub returns-clause-want : goal.returns-clause-want
returns-clause-want g c = λ told is. cc
