use Rattle.std.proofs.Common.{ℕ, Bool, [], ◌∷◌, List, Option, sym, subst, arith, ◌∙◌}
use Rattle.std.specs.Prelude.{Contains}
use Rattle.alto_words.specs.Fid.{sys_dir}
use Rattle.alto_words.specs.declared.fid.Fid.{Fid}
use Rattle.directory.specs.Asked.{DirStands}
use Rattle.disk_records.proofs.Looking.{looks_pack}
use Rattle.disk_records.specs.Packs.{Pack}
use Rattle.disk_records.specs.Tapes.{pack}
use Rattle.disk_records.specs.declared.records.Page.{Page}
use Rattle.disk_records.specs.declared.records.Place.{Place}
use Rattle.page_seeking.specs.Refs.{MisledBy}
use Rattle.pack_model.specs.states.Whole.{Whole}
use Rattle.session_model.specs.Turning.{HintFailing}
use Rattle.exec_session.proofs.Finding.{contains_first, contains_second}
use Rattle.exec_session.proofs.Looking.{looks_about_twice, looks_about_within}
use Rattle.exec_session.proofs.Stopping.{hint_of_stop, refused_of_stop}
use Rattle.exec_session.proofs.Causing.{cause_after, cause_passed, not_wanted}
use Rattle.exec_session.proofs.Parts.{ok_of_error}
use Rattle.exec_steps.proofs.rooms.plan_entry.Goals as goal

failing : (p : Pack) (d : Fid) (files : List Fid) (place : Place) (at : ℕ) (wanted : Page) (found : Option (List ℕ)) → Whole p → Contains files d → MisledBy p [] d place at wanted found → HintFailing p [] files place at wanted found
failing p d files place at wanted found whole among by = record { misled = by.answers; on_disk = by.answers.on_disk whole; file = rw by.own among }

pub returns-in_err-widens_root-clause-misled : goal.returns-in_err-widens_root-clause-misled
returns-in_err-widens_root-clause-misled g c = λ told root stands.
    let p = pack (g.D.Tape.tape c.args.disk.now) in
    let files = sys_dir ∷ c.args.dir.fid ∷ [] in
    hint_of_stop Bool (MisledBy p [] sys_dir) (HintFailing p [] files) c.in_err-widens_root.field-0.0 c.from_residual.result c.from_residual.ensures.1
    (λ place at wanted found h. failing p sys_dir files place at wanted found root.stands.whole (contains_first sys_dir (c.args.dir.fid ∷ [])) h)
    (c.in_err-widens_root.ensures.misled told root)

pub returns-in_err-widens_dir-clause-misled : goal.returns-in_err-widens_dir-clause-misled
returns-in_err-widens_dir-clause-misled g c = λ told root stands.
    let p = pack (g.D.Tape.tape c.args.disk.now) in
    let q = pack (g.D.Tape.tape c.lacks_room.new.disk) in
    let dir = c.args.dir in
    let files = sys_dir ∷ dir.fid ∷ [] in
    let same = looks_pack c.in_ok-widens_root.ensures.looks.looks told in
    hint_of_stop Bool (MisledBy q [] dir.fid) (HintFailing p [] files) c.in_err-widens_dir.field-0.0 c.from_residual-in_err-widens_dir.result c.from_residual-in_err-widens_dir.ensures.1
    (λ place at wanted found h. failing p dir.fid files place at wanted found root.stands.whole (contains_second sys_dir dir.fid []) (subst (λ r. MisledBy r [] dir.fid place at wanted found) same h))
    (c.in_err-widens_dir.ensures.misled told (subst (λ r. DirStands r dir) (sym same) stands))

pub returns-in_err-widens_dir-clause-looks : goal.returns-in_err-widens_dir-clause-looks
returns-in_err-widens_dir-clause-looks g c = looks_about_twice 8596750336 (omega arith) c.in_ok-widens_root.ensures.looks c.in_err-widens_dir.ensures.looks

pub returns-clause-looks : goal.returns-clause-looks
returns-clause-looks g c = looks_about_twice 8596750336 (omega arith) c.in_ok-widens_root.ensures.looks c.in_ok-widens_dir.ensures.looks

pub returns-in_err-widens_root-clause-planned : goal.returns-in_err-widens_root-clause-planned
returns-in_err-widens_root-clause-planned g c = λ told root stands. ok_of_error _ _ c.from_residual.result c.from_residual.ensures.1

pub returns-in_err-widens_root-clause-unrefused : goal.returns-in_err-widens_root-clause-unrefused
returns-in_err-widens_root-clause-unrefused g c = refused_of_stop Bool (λ r. ⊥) (λ r. ⊥) c.in_err-widens_root.field-0.0 c.from_residual.result c.from_residual.ensures.1 (λ r h. h) c.in_err-widens_root.ensures.unrefused

pub returns-in_err-widens_root-clause-cause : goal.returns-in_err-widens_root-clause-cause
returns-in_err-widens_root-clause-cause g c = cause_passed (g.D.Tape.tape c.args.disk.now) (g.D.Tape.tape c.lacks_room.new.disk) c.in_err-widens_root.field-0.0 c.from_residual.result c.from_residual.ensures.1 c.in_err-widens_root.ensures.cause

pub returns-in_err-widens_root-clause-want : goal.returns-in_err-widens_root-clause-want
returns-in_err-widens_root-clause-want g c = λ told. not_wanted Bool c.in_err-widens_root.field-0.0 c.from_residual.result c.from_residual.ensures.1 (c.in_err-widens_root.ensures.want told)

pub returns-in_err-widens_dir-clause-planned : goal.returns-in_err-widens_dir-clause-planned
returns-in_err-widens_dir-clause-planned g c = λ told root stands. ok_of_error _ _ c.from_residual-in_err-widens_dir.result c.from_residual-in_err-widens_dir.ensures.1

pub returns-in_err-widens_dir-clause-unrefused : goal.returns-in_err-widens_dir-clause-unrefused
returns-in_err-widens_dir-clause-unrefused g c = refused_of_stop Bool (λ r. ⊥) (λ r. ⊥) c.in_err-widens_dir.field-0.0 c.from_residual-in_err-widens_dir.result c.from_residual-in_err-widens_dir.ensures.1 (λ r h. h) c.in_err-widens_dir.ensures.unrefused

pub returns-in_err-widens_dir-clause-cause : goal.returns-in_err-widens_dir-clause-cause
returns-in_err-widens_dir-clause-cause g c = cause_after (g.D.Tape.tape c.args.disk.now) (g.D.Tape.tape c.lacks_room.new.disk) (g.D.Tape.tape c.lacks_own_room.new.disk) c.in_err-widens_dir.field-0.0 c.from_residual-in_err-widens_dir.result c.from_residual-in_err-widens_dir.ensures.1 c.in_ok-widens_root.ensures.cause c.in_err-widens_dir.ensures.cause

pub returns-in_err-widens_dir-clause-want : goal.returns-in_err-widens_dir-clause-want
returns-in_err-widens_dir-clause-want g c = λ told. not_wanted Bool c.in_err-widens_dir.field-0.0 c.from_residual-in_err-widens_dir.result c.from_residual-in_err-widens_dir.ensures.1 (c.in_err-widens_dir.ensures.want told)

pub returns-in_err-widens_root-clause-looks : goal.returns-in_err-widens_root-clause-looks
returns-in_err-widens_root-clause-looks g c = looks_about_within 8596750336 (omega arith) c.in_err-widens_root.ensures.looks

pub returns-clause-unrefused : goal.returns-clause-unrefused
returns-clause-unrefused g c = tt

pub returns-clause-misled : goal.returns-clause-misled
returns-clause-misled g c = λ told root stands. tt

pub returns-clause-cause : goal.returns-clause-cause
returns-clause-cause g c = c.in_ok-widens_dir.ensures.cause ∙ c.in_ok-widens_root.ensures.cause

pub returns-clause-want : goal.returns-clause-want
returns-clause-want g c = λ told is. cc
