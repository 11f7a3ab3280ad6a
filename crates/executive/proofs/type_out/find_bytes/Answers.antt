use Rattle.std.proofs.Common.{◌≡◌, ◌*◌, ◌+◌, ◌/◌, [], Some, IfOk, arith, ap, sym, subst, ◌∙◌}
use Rattle.disk_records.proofs.Looking.{looks_pack}
use Rattle.disk_records.specs.Tapes.{pack}
use Rattle.exec_words.specs.Texts.{type_text}
use Rattle.exec_words.specs.declared.line.Line.TheVariants as line
use Rattle.exec_words.specs.declared.line.Target.TheVariants.{ByPath}
use Rattle.exec_session.specs.laws_contents.proofs.model.Laws.{model_lengths_are_of_bytes}
use Rattle.page_seeking.proofs.Erring.{on_ok_map}
use Rattle.page_seeking.specs.Refs.{FileIsFrom, MisledBy}
use Rattle.page_seeking.specs.Seeking.{Quick, all_listed, file_length}
use Rattle.page_seeking.specs.declared.refs.FileRef.{FileRef}
use Rattle.pack_model.specs.operations.Committing.{length_of}
use Rattle.pack_model.specs.reading.Files.{file_bytes}
use Rattle.pack_model.specs.reading.Model.{read_as}
use Rattle.pack_model.specs.reading.Sights.{sights}
use Rattle.pack_model.specs.states.Sound.{Sound}
use Rattle.session_model.specs.Bounds.{sought_pages, type_runs}
use Rattle.session_model.specs.Finding.{file_at, the_file}
use Rattle.session_model.specs.Operands.{no_directory}
use Rattle.session_model.specs.Touched.{one_of}
use Rattle.exec_session.specs.Found.{dirs_followed, files_followed, operand, operand_refusal}
use Rattle.exec_session.specs.Meant.{IfHint}
use Rattle.exec_session.proofs.Looking.{looks_about_twice, quick_stays, soon_twice}
use Rattle.executive.proofs.Contents.{file_lives, named, type_said}
use Rattle.executive.proofs.Passing.{follows_file, handy_front, handy_of, ok_then, reads_of, touches_dirs, touches_file, unfound, looks_most}
use Rattle.executive.proofs.Untaken.{type_refused}
use Rattle.exec_session.proofs.Causing.{cause_passed, cause_sooner}
use Rattle.exec_session.proofs.Parts.{ok_of_error}
use Rattle.executive.proofs.type_out.find_bytes.Goals as goal

pub returns-in_err-file-clause-reads : goal.returns-in_err-file-clause-reads
returns-in_err-file-clause-reads g c = λ told sound.
    let p = pack (g.D.Tape.tape c.args.disk.now) in
    let target = c.args.target.now in
    unfound FileRef p (line.TypeOut target) (λ bytes. type_text bytes.items) (dirs_followed p target) (λ r. operand_refusal p (operand target no_directory) ≡ Some r) c.in_err-file.field-0.0 c.from_residual.result c.from_residual.ensures.1
    (λ w x taken is. type_refused (read_as p) w target taken ∙ is)
    (λ w f h. touches_dirs p target f h)
    (c.in_err-file.ensures.refused told sound) (c.in_err-file.ensures.misled told sound)

pub returns-clause-reads : goal.returns-clause-reads
returns-clause-reads g c = λ told sound.
    let p = pack (g.D.Tape.tape c.args.disk.now) in
    let target = c.args.target.now in
    let f = c.in_ok-file.file.fid in
    let at = c.in_ok-file.ensures.found told sound in
    let same = looks_pack c.find_ordinary.ensures.looks.looks told in
    let there = subst Sound (sym same) sound in
    reads_of p (line.TypeOut target) (λ bytes. type_text bytes.items) f c.bytes_of.result sound (λ w. touches_file p target f at.is)
    (ok_then c.bytes_of.result (subst (λ q. IfOk c.bytes_of.result (λ bytes. bytes.items ≡ file_bytes (sights q) f)) same (c.bytes_of.ensures.read told there))
    (λ bytes read w taken. type_said p w target f bytes.items taken at.is (c.in_ok-file.ensures.taken told sound) c.in_ok-file.ensures.ordinary (file_lives p c.in_ok-file.file sound at.from) read))
    (c.bytes_of.ensures.unrefused told there)
    (subst (λ q. IfHint c.bytes_of.result (MisledBy q [] f)) same (c.bytes_of.ensures.misled told there (subst (λ q. FileIsFrom q c.in_ok-file.file) (sym same) at.from)))

pub returns-clause-looks : goal.returns-clause-looks
returns-clause-looks g c = looks_about_twice (65588 * 139264) (omega arith) c.find_ordinary.ensures.looks c.bytes_of.ensures.looks

pub returns-clause-quick : goal.returns-clause-quick
returns-clause-quick g c = λ path told is handy.
    let old = g.D.Tape.tape c.args.disk.now in
    let mid = g.D.Tape.tape c.find_ordinary.new.disk in
    let new = g.D.Tape.tape c.bytes_of.new.disk in
    let p = pack old in
    let m = read_as p in
    let target = c.args.target.now in
    let f = c.in_ok-file.file.fid in
    let sound = handy.sound in
    let at = c.in_ok-file.ensures.found told sound in
    let about = c.find_ordinary.ensures.looks in
    let same = looks_pack about.looks told in
    let mine : Quick p f c.args.session.now.hints.cache = record { whole = sound.whole; links = handy.links; handy = handy_of p c.args.session.now.hints.table (all_listed c.args.session.now.hints.cache) (files_followed p (operand target no_directory)) f handy (follows_file p target f at.is) } in
    let first = c.in_ok-file.ensures.quick path told is (handy_front p c.args.session.now.hints.table (all_listed c.args.session.now.hints.cache) (dirs_followed p target) (one_of (file_at m target)) handy) in
    let long : file_length p f ≡ length_of m (the_file m (ByPath path)) =
    sym (model_lengths_are_of_bytes p f sound.whole sound.tidy c.in_ok-file.ensures.ordinary.no_descriptor (file_lives p c.in_ok-file.file sound at.from))
    ∙ ap (length_of m) (sym (named m (ByPath path) f (subst (λ t. file_at m t ≡ Some f) is at.is)))
    in
    let there = ap (λ q. file_length q f) same ∙ long in
    on_ok_map c.bytes_of.result
    (λ next. soon_twice (sought_pages m path + 2) (file_length (pack mid) f / 512 + 3) (type_runs m path) old mid new (omega (arith, there)) about.looked c.bytes_of.ensures.looks.looked first next)
    (c.bytes_of.ensures.quick told (quick_stays f about told mine))

pub returns-in_err-file-clause-cause : goal.returns-in_err-file-clause-cause
returns-in_err-file-clause-cause g c = cause_passed (g.D.Tape.tape c.args.disk.now) (g.D.Tape.tape c.find_ordinary.new.disk) c.in_err-file.field-0.0 c.from_residual.result c.from_residual.ensures.1 c.in_err-file.ensures.cause

pub returns-clause-cause : goal.returns-clause-cause
returns-clause-cause g c = cause_sooner (g.D.Tape.tape c.args.disk.now) (g.D.Tape.tape c.find_ordinary.new.disk) (g.D.Tape.tape c.bytes_of.new.disk) c.bytes_of.result c.in_ok-file.ensures.cause c.bytes_of.ensures.cause

pub returns-in_err-file-clause-looks : goal.returns-in_err-file-clause-looks
returns-in_err-file-clause-looks g c = looks_most (65588 * 139264) (omega arith) c.in_err-file.ensures.looks

pub returns-in_err-file-clause-quick : goal.returns-in_err-file-clause-quick
returns-in_err-file-clause-quick g c = λ path told is handy. ok_of_error (λ s. s ≡ c.in_err-file.field-0.0) _ c.from_residual.result c.from_residual.ensures.1
