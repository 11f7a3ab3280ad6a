use Rattle.std.proofs.Common.{◌≡◌, ◌*◌, ℕ, true, List, [], ◌∷◌, Option, Result, Ok, Err, IfOk, sym, subst, arith}
use Rattle.alto_words.specs.Fid.{sys_dir}
use Rattle.alto_words.specs.Names.{is_stored_name}
use Rattle.alto_words.specs.declared.fid.Fid.{Fid}
use Rattle.alto_words.specs.declared.wanted.Wanted.{Wanted}
use Rattle.directory.specs.Asked.{DirStands}
use Rattle.disk_records.proofs.Looking.{looks_pack}
use Rattle.disk_records.specs.Packs.{Pack}
use Rattle.disk_records.specs.Tapes.{pack}
use Rattle.disk_records.specs.declared.records.Page.{Page}
use Rattle.disk_records.specs.declared.records.Place.{Place}
use Rattle.page_seeking.specs.Refs.{MisledBy}
use Rattle.page_seeking.specs.declared.refs.FileRef.{FileRef}
use Rattle.pack_model.specs.states.Whole.{Whole}
use Rattle.session_model.specs.Turning.{HintFailing}
use Rattle.exec_session.proofs.Finding.{contains_second}
use Rattle.exec_session.proofs.Looking.{looks_about_twice}
use Rattle.exec_session.proofs.Stopping.{hint_of_stop, refused_of_stop}
use Rattle.exec_session.specs.Found.{root_ref}
use Rattle.exec_session.specs.Meant.{IfHint}
use Rattle.exec_session.specs.NewNames.{IsGiven, IsTaken}
use Rattle.exec_steps.specs.Rooms.{IsPlanned}
use Rattle.exec_steps.specs.declared.rooms.NewEntry.{NewEntry}
use Rattle.exec_session.specs.declared.stop.Stop.{Stop}
use Rattle.exec_writing.specs.Entries.{IsNewEntry}
use Rattle.exec_steps.proofs.Frames.{looks_about_within, cause_passed}
use Rattle.exec_writing.proofs.NewSectors.{refused_then}
use Rattle.exec_session.proofs.Causing.{cause_sooner, not_wanted}
use Rattle.exec_session.proofs.Parts.{ok_of_error}
use Rattle.exec_writing.proofs.new_entry.plan_named.Goals as goal

-- a hint of the directory that misled
failing : (p : Pack) (d : Fid) (place : Place) (at : ℕ) (wanted : Page) (found : Option (List ℕ)) → Whole p → MisledBy p [] d place at wanted found → HintFailing p [] (sys_dir ∷ d ∷ []) place at wanted found
failing p d place at wanted found whole by = record { misled = by.answers; on_disk = by.answers.on_disk whole; file = rw by.own (contains_second sys_dir d []) }

pub returns-in_err-name-clause-taken : goal.returns-in_err-name-clause-taken
returns-in_err-name-clause-taken g c = λ told stands.
    let p = pack (g.D.Tape.tape c.args.disk.now) in
    let taken = IsTaken p c.args.dir.fid c.args.wanted.now in
    refused_of_stop (List ℕ) taken taken c.in_err-name.field-0.0 c.from_residual.result c.from_residual.ensures.1 (λ r h. h) (c.in_err-name.ensures.taken told stands)

pub returns-in_err-name-clause-misled : goal.returns-in_err-name-clause-misled
returns-in_err-name-clause-misled g c = λ told root stands.
    let p = pack (g.D.Tape.tape c.args.disk.now) in
    let d = c.args.dir.fid in
    hint_of_stop (List ℕ) (MisledBy p [] d) (HintFailing p [] (sys_dir ∷ d ∷ [])) c.in_err-name.field-0.0 c.from_residual.result c.from_residual.ensures.1
    (λ place at wanted found h. failing p d place at wanted found root.stands.whole h)
    (c.in_err-name.ensures.misled told stands)

pub returns-in_err-name-clause-looks : goal.returns-in_err-name-clause-looks
returns-in_err-name-clause-looks g c = looks_about_within (65588 * 262144) (omega arith) c.in_err-name.ensures.looks

-- ---- the plan
-- by what is planned on the same pack
new_entry : (p q : Pack) (dir : FileRef) (w : Wanted) (name : List ℕ) (r : Result NewEntry Stop) → q ≡ p → IsGiven p dir.fid w name → is_stored_name name ≡ true → IfOk r (IsPlanned q dir name) → IfOk r (IsNewEntry p dir w)
new_entry p q dir w name (Err e) same given stored planned = tt
new_entry p q dir w name (Ok e) same given stored planned =
    let own = sym planned.name_is in
    record {
      given = subst (IsGiven p dir.fid w) own given;
      stored = subst (λ n. is_stored_name n ≡ true) own stored;
      planned = subst (λ n. IsPlanned p dir n e) own (subst (λ x. IsPlanned x dir name e) same planned);
    }

pub returns-clause-planned : goal.returns-clause-planned
returns-clause-planned g c = λ told root stands.
    let p = pack (g.D.Tape.tape c.args.disk.now) in
    let q = pack (g.D.Tape.tape c.name_given.new.disk) in
    let same : q ≡ p = looks_pack c.in_ok-name.ensures.looks.looks told in
    new_entry p q c.args.dir c.args.wanted.now c.in_ok-name.name c.plan_entry.result same (c.in_ok-name.ensures.given told stands) c.as_bytes-bytes.ensures.stored
    (c.plan_entry.ensures.planned told (subst (λ x. DirStands x root_ref) (sym same) root) (subst (λ x. DirStands x c.args.dir) (sym same) stands))

pub returns-clause-taken : goal.returns-clause-taken
returns-clause-taken g c = λ told stands. refused_then (λ r. ⊥) (IsTaken (pack (g.D.Tape.tape c.args.disk.now)) c.args.dir.fid c.args.wanted.now) c.plan_entry.result (λ r none. absurd none) c.plan_entry.ensures.unrefused

pub returns-clause-misled : goal.returns-clause-misled
returns-clause-misled g c = λ told root stands.
    let p = pack (g.D.Tape.tape c.args.disk.now) in
    let q = pack (g.D.Tape.tape c.name_given.new.disk) in
    let same : q ≡ p = looks_pack c.in_ok-name.ensures.looks.looks told in
    subst (λ x. IfHint c.plan_entry.result (HintFailing x [] (sys_dir ∷ c.args.dir.fid ∷ []))) same
    (c.plan_entry.ensures.misled told (subst (λ x. DirStands x root_ref) (sym same) root) (subst (λ x. DirStands x c.args.dir) (sym same) stands))

pub returns-clause-looks : goal.returns-clause-looks
returns-clause-looks g c = looks_about_twice (65588 * 262144) (omega arith) c.in_ok-name.ensures.looks c.plan_entry.ensures.looks

pub returns-in_err-name-clause-planned : goal.returns-in_err-name-clause-planned
returns-in_err-name-clause-planned g c = λ told root dir. ok_of_error (λ s. s ≡ c.in_err-name.field-0.0) _ c.from_residual.result c.from_residual.ensures.1

pub returns-in_err-name-clause-cause : goal.returns-in_err-name-clause-cause
returns-in_err-name-clause-cause g c = cause_passed (g.D.Tape.tape c.args.disk.now) (g.D.Tape.tape c.name_given.new.disk) c.in_err-name.field-0.0 c.from_residual.result c.from_residual.ensures.1 c.in_err-name.ensures.cause

pub returns-in_err-name-clause-want : goal.returns-in_err-name-clause-want
returns-in_err-name-clause-want g c = λ told. not_wanted (List ℕ) c.in_err-name.field-0.0 c.from_residual.result c.from_residual.ensures.1 (c.in_err-name.ensures.want told)

pub returns-clause-cause : goal.returns-clause-cause
returns-clause-cause g c = cause_sooner (g.D.Tape.tape c.args.disk.now) (g.D.Tape.tape c.name_given.new.disk) (g.D.Tape.tape c.plan_entry.new.disk) c.plan_entry.result c.in_ok-name.ensures.cause c.plan_entry.ensures.cause

pub returns-clause-want : goal.returns-clause-want
returns-clause-want g c = c.plan_entry.ensures.want
