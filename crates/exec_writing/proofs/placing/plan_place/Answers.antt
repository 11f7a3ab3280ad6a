use Rattle.std.proofs.Common.{◌*◌, ◌≡◌, [], ◌∷◌, Some, Err, sym, ap, subst, ◌∙◌, arith}
use Rattle.std.specs.Option.{option_or}
use Rattle.alto_words.specs.Fid.{sys_dir}
use Rattle.disk_records.proofs.Looking.{looks_pack}
use Rattle.disk_records.specs.Tapes.{pack}
use Rattle.exec_words.specs.Typed.{is_typed_dir, is_typed_wanted}
use Rattle.exec_words.specs.declared.line.Target.TheVariants.{ByPath}
use Rattle.exec_words.specs.declared.reply.Refusal.TheVariants as refusal
use Rattle.page_seeking.specs.Refs.{FileIsFrom}
use Rattle.page_seeking.specs.declared.refs.FileRef.{FileRef}
use Rattle.pack_model.specs.reading.Model.{read_as}
use Rattle.pack_model.specs.states.Sound.{Sound}
use Rattle.session_model.specs.Finding.{is_path_taken}
use Rattle.session_model.specs.Refusals.{when}
use Rattle.session_model.specs.Touched.{dir_named, one_of}
use Rattle.session_model.specs.Turning.{HintFailing}
use Rattle.exec_session.proofs.Finding.{more_failing}
use Rattle.exec_session.proofs.Looking.{looks_about_twice}
use Rattle.exec_session.proofs.Stopping.{error_is, hint_of_stop, refused_as, refused_of_stop}
use Rattle.exec_session.specs.Found.{IsNoDirOf, dirs_followed}
use Rattle.exec_session.specs.Meant.{IfHint}
use Rattle.exec_session.specs.NewNames.{IsTaken}
use Rattle.exec_steps.proofs.Stepping.{if_hint_weaker}
use Rattle.exec_writing.specs.Entries.{IsNewEntry}
use Rattle.exec_writing.specs.Plans.{kinds_refusal, place_refusal}
use Rattle.exec_writing.proofs.Adding.{root_stands}
use Rattle.exec_steps.proofs.Frames.{looks_about_within, cause_passed}
use Rattle.exec_writing.proofs.NewSectors.{refused_then}
use Rattle.exec_writing.proofs.NamedEntries.{dir_stands}
use Rattle.exec_writing.proofs.NewPlaces.{if_ok_then, is_placed, kinds_pass, name_refuses, passed_by, place_absent, place_there, refused_by}
use Rattle.exec_writing.proofs.Refusing.{both}
use Rattle.exec_session.proofs.Causing.{cause_refused, cause_sooner, not_wanted, not_wanted_refused}
use Rattle.exec_session.proofs.Parts.{ok_of_error}
use Rattle.exec_writing.proofs.placing.plan_place.Goals as goal

pub returns-in_err-dir-clause-refused : goal.returns-in_err-dir-clause-refused
returns-in_err-dir-clause-refused g c = λ told sound.
    let p = pack (g.D.Tape.tape c.args.disk.now) in
    let path = c.args.path.now in
    refused_of_stop FileRef (IsNoDirOf p path.dir) (λ r. place_refusal (read_as p) c.args.file path ≡ Some r) c.in_err-dir.field-0.0 c.from_residual.result c.from_residual.ensures.1
    (λ r none. place_absent (read_as p) c.args.file path none.1 ∙ ap Some (sym none.0))
    (c.in_err-dir.ensures.absent told sound)

pub returns-in_err-dir-clause-misled : goal.returns-in_err-dir-clause-misled
returns-in_err-dir-clause-misled g c = λ told sound.
    let p = pack (g.D.Tape.tape c.args.disk.now) in
    let path = c.args.path.now in
    hint_of_stop FileRef (HintFailing p [] (sys_dir ∷ [])) (HintFailing p [] (dirs_followed p (ByPath path))) c.in_err-dir.field-0.0 c.from_residual.result c.from_residual.ensures.1
    (λ place at wanted found h. more_failing p sys_dir (dir_named (read_as p) (ByPath path)) place at wanted found h)
    (c.in_err-dir.ensures.misled told sound)

pub returns-in_err-dir-clause-looks : goal.returns-in_err-dir-clause-looks
returns-in_err-dir-clause-looks g c = looks_about_within (65588 * 327680) (omega arith) c.in_err-dir.ensures.looks

pub returns-in_err-refuse_kinds-clause-looks : goal.returns-in_err-refuse_kinds-clause-looks
returns-in_err-refuse_kinds-clause-looks g c = looks_about_within (65588 * 327680) (omega arith) c.in_ok-dir.ensures.looks

pub returns-in_err-refuse_kinds-clause-refused : goal.returns-in_err-refuse_kinds-clause-refused
returns-in_err-refuse_kinds-clause-refused g c = λ told sound.
    let p = pack (g.D.Tape.tape c.args.disk.now) in
    let path = c.args.path.now in
    let f = c.args.file in
    let d = c.in_ok-dir.dir.fid in
    let by = refused_by (kinds_refusal f d) c.in_err-refuse_kinds.field-0.0 c.in_err-refuse_kinds.ensures in
    refused_as (λ r. place_refusal (read_as p) f path ≡ Some r) c.from_residual-in_err-refuse_kinds.result by.refusal
    (error_is c.from_residual-in_err-refuse_kinds.result c.from_residual-in_err-refuse_kinds.ensures.1 ∙ ap Err by.stop_is)
    (place_there (read_as p) f d path (c.in_ok-dir.ensures.found told sound).is ∙ ap (λ k. option_or k (when (is_path_taken (read_as p) path) refusal.NameTaken)) by.for)

pub returns-in_err-refuse_kinds-clause-misled : goal.returns-in_err-refuse_kinds-clause-misled
returns-in_err-refuse_kinds-clause-misled g c = λ told sound.
    let p = pack (g.D.Tape.tape c.args.disk.now) in
    let by = refused_by (kinds_refusal c.args.file c.in_ok-dir.dir.fid) c.in_err-refuse_kinds.field-0.0 c.in_err-refuse_kinds.ensures in
    subst (λ r. IfHint r (HintFailing p [] (dirs_followed p (ByPath c.args.path.now)))) (sym (error_is c.from_residual-in_err-refuse_kinds.result c.from_residual-in_err-refuse_kinds.ensures.1 ∙ ap Err by.stop_is)) tt

pub plan_named-requires : goal.plan_named-requires
plan_named-requires g c = record { typed = both (is_typed_dir c.args.path.now.dir) (is_typed_wanted c.args.path.now.wanted) c.requires.typed }

pub returns-clause-placed : goal.returns-clause-placed
returns-clause-placed g c = λ told sound.
    let p = pack (g.D.Tape.tape c.args.disk.now) in
    let path = c.args.path.now in
    let f = c.args.file in
    let dir = c.in_ok-dir.dir in
    let same = looks_pack c.in_ok-dir.ensures.looks.looks told in
    let there = subst Sound (sym same) sound in
    let is = c.in_ok-dir.ensures.found told sound in
    let none = passed_by (kinds_refusal f dir.fid) c.in_ok-refuse_kinds.field-0 c.in_ok-refuse_kinds.ensures in
    let directory = (kinds_pass f dir.fid none).directory in
    if_ok_then c.plan_named.result (λ e n. is_placed p f path dir is none e (subst (λ q. IsNewEntry q dir path.wanted e) same n))
    (c.plan_named.ensures.planned told (root_stands _ there) (dir_stands _ dir there (subst (λ q. FileIsFrom q dir) (sym same) is.from) directory))

pub returns-clause-refused : goal.returns-clause-refused
returns-clause-refused g c = λ told sound.
    let p = pack (g.D.Tape.tape c.args.disk.now) in
    let path = c.args.path.now in
    let f = c.args.file in
    let dir = c.in_ok-dir.dir in
    let same = looks_pack c.in_ok-dir.ensures.looks.looks told in
    let there = subst Sound (sym same) sound in
    let is = c.in_ok-dir.ensures.found told sound in
    let none = passed_by (kinds_refusal f dir.fid) c.in_ok-refuse_kinds.field-0 c.in_ok-refuse_kinds.ensures in
    let directory = (kinds_pass f dir.fid none).directory in
    refused_then _ (λ r. place_refusal (read_as p) f path ≡ Some r) c.plan_named.result (λ r t. name_refuses p f path dir is none r (subst (λ q. IsTaken q dir.fid path.wanted r) same t))
    (c.plan_named.ensures.taken told (dir_stands _ dir there (subst (λ q. FileIsFrom q dir) (sym same) is.from) directory))

pub returns-clause-misled : goal.returns-clause-misled
returns-clause-misled g c = λ told sound.
    let p = pack (g.D.Tape.tape c.args.disk.now) in
    let q = pack (g.D.Tape.tape c.find_dir.new.disk) in
    let path = c.args.path.now in
    let f = c.args.file in
    let dir = c.in_ok-dir.dir in
    let same = looks_pack c.in_ok-dir.ensures.looks.looks told in
    let there = subst Sound (sym same) sound in
    let is = c.in_ok-dir.ensures.found told sound in
    let none = passed_by (kinds_refusal f dir.fid) c.in_ok-refuse_kinds.field-0 c.in_ok-refuse_kinds.ensures in
    let directory = (kinds_pass f dir.fid none).directory in
    if_hint_weaker (HintFailing q [] (sys_dir ∷ dir.fid ∷ [])) (HintFailing p [] (dirs_followed p (ByPath path))) c.plan_named.result
    (λ place at wanted found h. subst (λ ds. HintFailing p [] (sys_dir ∷ ds) place at wanted found) (ap one_of (sym is.is)) (subst (λ x. HintFailing x [] (sys_dir ∷ dir.fid ∷ []) place at wanted found) same h))
    (c.plan_named.ensures.misled told (root_stands q there) (dir_stands q dir there (subst (λ x. FileIsFrom x dir) (sym same) is.from) directory))

pub returns-clause-looks : goal.returns-clause-looks
returns-clause-looks g c = looks_about_twice (65588 * 327680) (omega arith) c.in_ok-dir.ensures.looks c.plan_named.ensures.looks

pub returns-in_err-dir-clause-placed : goal.returns-in_err-dir-clause-placed
returns-in_err-dir-clause-placed g c = λ told sound. ok_of_error (λ s. s ≡ c.in_err-dir.field-0.0) _ c.from_residual.result c.from_residual.ensures.1

pub returns-in_err-dir-clause-cause : goal.returns-in_err-dir-clause-cause
returns-in_err-dir-clause-cause g c = cause_passed (g.D.Tape.tape c.args.disk.now) (g.D.Tape.tape c.find_dir.new.disk) c.in_err-dir.field-0.0 c.from_residual.result c.from_residual.ensures.1 c.in_err-dir.ensures.cause

pub returns-in_err-dir-clause-want : goal.returns-in_err-dir-clause-want
returns-in_err-dir-clause-want g c = λ told. not_wanted FileRef c.in_err-dir.field-0.0 c.from_residual.result c.from_residual.ensures.1 (c.in_err-dir.ensures.want told)

pub returns-in_err-refuse_kinds-clause-placed : goal.returns-in_err-refuse_kinds-clause-placed
returns-in_err-refuse_kinds-clause-placed g c = λ told sound. ok_of_error (λ s. s ≡ c.in_err-refuse_kinds.field-0.0) _ c.from_residual-in_err-refuse_kinds.result c.from_residual-in_err-refuse_kinds.ensures.1

pub returns-in_err-refuse_kinds-clause-cause : goal.returns-in_err-refuse_kinds-clause-cause
returns-in_err-refuse_kinds-clause-cause g c =
    cause_refused (g.D.Tape.tape c.args.disk.now) (g.D.Tape.tape c.find_dir.new.disk) c.in_err-refuse_kinds.field-0.0 (refused_by (kinds_refusal c.args.file c.in_ok-dir.dir.fid) c.in_err-refuse_kinds.field-0.0 c.in_err-refuse_kinds.ensures).refusal c.from_residual-in_err-refuse_kinds.result c.from_residual-in_err-refuse_kinds.ensures.1 (refused_by (kinds_refusal c.args.file c.in_ok-dir.dir.fid) c.in_err-refuse_kinds.field-0.0 c.in_err-refuse_kinds.ensures).stop_is c.in_ok-dir.ensures.cause

pub returns-in_err-refuse_kinds-clause-want : goal.returns-in_err-refuse_kinds-clause-want
returns-in_err-refuse_kinds-clause-want g c =
    λ told. not_wanted_refused c.in_err-refuse_kinds.field-0.0 (refused_by (kinds_refusal c.args.file c.in_ok-dir.dir.fid) c.in_err-refuse_kinds.field-0.0 c.in_err-refuse_kinds.ensures).refusal c.from_residual-in_err-refuse_kinds.result c.from_residual-in_err-refuse_kinds.ensures.1 (refused_by (kinds_refusal c.args.file c.in_ok-dir.dir.fid) c.in_err-refuse_kinds.field-0.0 c.in_err-refuse_kinds.ensures).stop_is

pub returns-clause-cause : goal.returns-clause-cause
returns-clause-cause g c = cause_sooner (g.D.Tape.tape c.args.disk.now) (g.D.Tape.tape c.find_dir.new.disk) (g.D.Tape.tape c.plan_named.new.disk) c.plan_named.result c.in_ok-dir.ensures.cause c.plan_named.ensures.cause

pub returns-clause-want : goal.returns-clause-want
returns-clause-want g c = c.plan_named.ensures.want
