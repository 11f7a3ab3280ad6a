use Rattle.std.proofs.Common.{◌≡◌, ◌*◌, ℕ, true, false, List, [], ◌∷◌, Some, Result, Ok, Err, IfOk, sym, subst, ap, ◌∙◌, arith}
use Rattle.alto_words.specs.Fid.{sys_dir}
use Rattle.disk_records.proofs.Looking.{looks_pack}
use Rattle.disk_records.specs.Packs.{Pack}
use Rattle.disk_records.specs.Tapes.{pack}
use Rattle.exec_words.specs.declared.line.Line.TheVariants as line
use Rattle.exec_words.specs.declared.reply.Refusal.TheVariants as refusal
use Rattle.page_seeking.specs.Refs.{MisledBy}
use Rattle.pack_model.specs.reading.Model.{dir_items, read_as}
use Rattle.pack_model.specs.reading.Versions.{is_base_taken}
use Rattle.session_model.specs.Refusals.{when}
use Rattle.session_model.specs.Touched.{files_named}
use Rattle.session_model.specs.Turning.{HintFailing}
use Rattle.directory.specs.Asked.{DirStands}
use Rattle.exec_session.proofs.Finding.{hint_failing}
use Rattle.exec_session.proofs.Looking.{looks_about_twice}
use Rattle.exec_session.proofs.Stopping.{hint_of_stop, refused_of_stop}
use Rattle.exec_session.specs.Found.{root_ref}
use Rattle.exec_session.specs.Meant.{IfHint}
use Rattle.exec_steps.specs.Rooms.{IsPlanned}
use Rattle.exec_steps.specs.declared.rooms.NewEntry.{NewEntry}
use Rattle.exec_session.specs.declared.stop.Stop.{Stop}
use Rattle.exec_steps.proofs.Stepping.{if_hint_weaker}
use Rattle.exec_writing.specs.Entries.{OperandsRefuse, PlansDir}
use Rattle.exec_writing.proofs.Adding.{root_stands, touched_pair}
use Rattle.exec_steps.proofs.Frames.{looks_about_within, cause_passed}
use Rattle.exec_writing.proofs.NamedEntries.{failing_more, make_dir_operand, root_touched}
use Rattle.exec_writing.proofs.NewSectors.{refused_then}
use Rattle.exec_session.proofs.Causing.{cause_sooner, not_wanted}
use Rattle.exec_session.proofs.Parts.{ok_of_error}
use Rattle.exec_writing.proofs.mkdir.plan_dir.Goals as goal

-- ---- the name is taken
pub returns-in_err-refuse_held_base-clause-refused : goal.returns-in_err-refuse_held_base-clause-refused
returns-in_err-refuse_held_base-clause-refused g c = λ told sound.
    let p = pack (g.D.Tape.tape c.args.disk.now) in
    let name = c.args.name.now in
    refused_of_stop (Unit {0}) (λ r. (r ≡ refusal.NameTaken) × (is_base_taken name (dir_items (read_as p) sys_dir) ≡ true)) (OperandsRefuse p (line.MakeDir name)) c.in_err-refuse_held_base.field-0.0 c.from_residual.result c.from_residual.ensures.1
    (λ r taken. make_dir_operand (read_as p) name ∙ ap (λ b. when b refusal.NameTaken) taken.1 ∙ ap Some (sym taken.0))
    (c.in_err-refuse_held_base.ensures.taken told (root_stands p sound))

pub returns-in_err-refuse_held_base-clause-misled : goal.returns-in_err-refuse_held_base-clause-misled
returns-in_err-refuse_held_base-clause-misled g c = λ told sound.
    let p = pack (g.D.Tape.tape c.args.disk.now) in
    let l = line.MakeDir c.args.name.now in
    hint_of_stop (Unit {0}) (MisledBy p [] sys_dir) (HintFailing p [] (files_named l (read_as p))) c.in_err-refuse_held_base.field-0.0 c.from_residual.result c.from_residual.ensures.1
    (λ place at wanted found h. hint_failing p sys_dir (files_named l (read_as p)) place at wanted found sound (root_touched (read_as p) l) h)
    (c.in_err-refuse_held_base.ensures.misled told (root_stands p sound))

pub returns-in_err-refuse_held_base-clause-looks : goal.returns-in_err-refuse_held_base-clause-looks
returns-in_err-refuse_held_base-clause-looks g c = looks_about_within (65588 * 196608) (omega arith) c.in_err-refuse_held_base.ensures.looks

-- ---- it is free
planned_dir : (p q : Pack) (name : List ℕ) (r : Result NewEntry Stop) → q ≡ p → is_base_taken name (dir_items (read_as p) sys_dir) ≡ false → IfOk r (IsPlanned q root_ref name) → IfOk r (PlansDir p name)
planned_dir p q name (Err x) same free h = tt
planned_dir p q name (Ok e) same free h = record { passes = make_dir_operand (read_as p) name ∙ ap (λ b. when b refusal.NameTaken) free; planned = subst (λ x. IsPlanned x root_ref name e) same h }

pub returns-clause-planned : goal.returns-clause-planned
returns-clause-planned g c = λ told sound.
    let p = pack (g.D.Tape.tape c.args.disk.now) in
    let q = pack (g.D.Tape.tape c.refuse_held_base.new.disk) in
    let same : q ≡ p = looks_pack c.in_ok-refuse_held_base.ensures.looks.looks told in
    let root = subst (λ x. DirStands x root_ref) (sym same) (root_stands p sound) in
    planned_dir p q c.args.name.now c.plan_entry.result same (c.in_ok-refuse_held_base.ensures.free told (root_stands p sound)) (c.plan_entry.ensures.planned told root root)

pub returns-clause-refused : goal.returns-clause-refused
returns-clause-refused g c = λ told sound. refused_then (λ r. ⊥) (OperandsRefuse (pack (g.D.Tape.tape c.args.disk.now)) (line.MakeDir c.args.name.now)) c.plan_entry.result (λ r none. absurd none) c.plan_entry.ensures.unrefused

pub returns-clause-misled : goal.returns-clause-misled
returns-clause-misled g c = λ told sound.
    let p = pack (g.D.Tape.tape c.args.disk.now) in
    let q = pack (g.D.Tape.tape c.refuse_held_base.new.disk) in
    let same : q ≡ p = looks_pack c.in_ok-refuse_held_base.ensures.looks.looks told in
    let root = subst (λ x. DirStands x root_ref) (sym same) (root_stands p sound) in
    let l = line.MakeDir c.args.name.now in
    let files = files_named l (read_as p) in
    let own = root_touched (read_as p) l in
    if_hint_weaker (HintFailing p [] (sys_dir ∷ sys_dir ∷ [])) (HintFailing p [] files) c.plan_entry.result
    (λ place at wanted found h. failing_more p (sys_dir ∷ sys_dir ∷ []) files place at wanted found (touched_pair files sys_dir sys_dir own own) h)
    (subst (λ x. IfHint c.plan_entry.result (HintFailing x [] (sys_dir ∷ sys_dir ∷ []))) same (c.plan_entry.ensures.misled told root root))

pub returns-clause-looks : goal.returns-clause-looks
returns-clause-looks g c = looks_about_twice (65588 * 196608) (omega arith) c.in_ok-refuse_held_base.ensures.looks c.plan_entry.ensures.looks

pub returns-in_err-refuse_held_base-clause-planned : goal.returns-in_err-refuse_held_base-clause-planned
returns-in_err-refuse_held_base-clause-planned g c = λ told sound. ok_of_error (λ s. s ≡ c.in_err-refuse_held_base.field-0.0) _ c.from_residual.result c.from_residual.ensures.1

pub returns-in_err-refuse_held_base-clause-cause : goal.returns-in_err-refuse_held_base-clause-cause
returns-in_err-refuse_held_base-clause-cause g c =
    cause_passed (g.D.Tape.tape c.args.disk.now) (g.D.Tape.tape c.refuse_held_base.new.disk) c.in_err-refuse_held_base.field-0.0 c.from_residual.result c.from_residual.ensures.1 c.in_err-refuse_held_base.ensures.cause

pub returns-in_err-refuse_held_base-clause-want : goal.returns-in_err-refuse_held_base-clause-want
returns-in_err-refuse_held_base-clause-want g c = λ told. not_wanted (Unit {0}) c.in_err-refuse_held_base.field-0.0 c.from_residual.result c.from_residual.ensures.1 (c.in_err-refuse_held_base.ensures.want told)

pub returns-clause-cause : goal.returns-clause-cause
returns-clause-cause g c = cause_sooner (g.D.Tape.tape c.args.disk.now) (g.D.Tape.tape c.refuse_held_base.new.disk) (g.D.Tape.tape c.plan_entry.new.disk) c.plan_entry.result c.in_ok-refuse_held_base.ensures.cause c.plan_entry.ensures.cause

pub returns-clause-want : goal.returns-clause-want
returns-clause-want g c = c.plan_entry.ensures.want
