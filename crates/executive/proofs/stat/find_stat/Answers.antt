use Rattle.std.proofs.Common.{◌*◌, ℕ, [], Some, Err, arith, ap, sym, subst, ◌∙◌}
use Rattle.alto_words.specs.Fid.{disk_descriptor, is_fid}
use Rattle.disk_records.proofs.Looking.{looks_pack}
use Rattle.disk_records.specs.Tapes.{pack}
use Rattle.exec_words.specs.Texts.{stat_text}
use Rattle.exec_words.specs.declared.line.Line.TheVariants as line
use Rattle.exec_words.specs.declared.reply.Refusal.TheVariants as refusal
use Rattle.leader_page.specs.Pages.{said}
use Rattle.leader_page.specs.declared.leader.Leader.{Leader}
use Rattle.page_seeking.specs.Refs.{FileIsFrom, MisledBy}
use Rattle.page_seeking.specs.Seeking.{file_length}
use Rattle.page_seeking.specs.declared.refs.FileRef.{FileRef}
use Rattle.pack_model.specs.reading.Model.{read_as}
use Rattle.pack_model.specs.states.Sound.{Sound}
use Rattle.session_model.specs.Refusals.{when}
use Rattle.exec_session.specs.Found.{IsNoneAt, dirs_followed}
use Rattle.exec_session.specs.Meant.{IfHint}
use Rattle.exec_session.proofs.Looking.{looks_about_twice}
use Rattle.exec_session.proofs.OrdinaryFiles.{ok_test, by_test}
use Rattle.executive.specs.Reads.{IsLeaderOf}
use Rattle.executive.proofs.Contents.{stat_said}
use Rattle.executive.proofs.Passing.{stops_of, test_refused, touches_dirs, touches_file, unfound, looks_most}
use Rattle.executive.proofs.Untaken.{stat_absent, stat_found, stat_refused}
use Rattle.exec_session.proofs.Causing.{cause_after, cause_passed, cause_refused}
use Rattle.executive.proofs.stat.find_stat.Goals as goal

pub returns-in_err-file-clause-reads : goal.returns-in_err-file-clause-reads
returns-in_err-file-clause-reads g c = λ told sound.
    let p = pack (g.D.Tape.tape c.args.disk.now) in
    let target = c.args.target.now in
    unfound FileRef p (line.Stat target) stat_text (dirs_followed p target) (IsNoneAt p target) c.in_err-file.field-0.0 c.from_residual.result c.from_residual.ensures.1
    (λ w x taken none. stat_refused (read_as p) w target taken ∙ stat_absent p target none.1 ∙ ap Some (sym none.0))
    (λ w f h. touches_dirs p target f h)
    (c.in_err-file.ensures.absent told sound) (c.in_err-file.ensures.misled told sound)

pub returns-in_err-refuse_descriptor-clause-reads : goal.returns-in_err-refuse_descriptor-clause-reads
returns-in_err-refuse_descriptor-clause-reads g c = λ told sound.
    let p = pack (g.D.Tape.tape c.args.disk.now) in
    let target = c.args.target.now in
    let f = c.in_ok-file.file.fid in
    test_refused p (line.Stat target) stat_text (is_fid f disk_descriptor) refusal.SystemFile c.in_err-refuse_descriptor.field-0.0 c.from_residual-in_err-refuse_descriptor.result c.from_residual-in_err-refuse_descriptor.ensures.1 c.in_err-refuse_descriptor.ensures
    (λ w taken is. stat_refused (read_as p) w target taken ∙ stat_found p target f sound (c.in_ok-file.ensures.found told sound).is ∙ ap (λ b. when b refusal.SystemFile) is)

pub returns-in_err-length-clause-reads : goal.returns-in_err-length-clause-reads
returns-in_err-length-clause-reads g c = λ told sound.
    let p = pack (g.D.Tape.tape c.args.disk.now) in
    let target = c.args.target.now in
    let f = c.in_ok-file.file.fid in
    let at = c.in_ok-file.ensures.found told sound in
    let same = looks_pack c.find_target.ensures.looks.looks told in
    stops_of ℕ p (line.Stat target) stat_text f c.in_err-length.field-0.0 c.from_residual-in_err-length.result c.from_residual-in_err-length.ensures.1 sound (λ w. touches_file p target f at.is)
    c.in_err-length.ensures.unrefused
    (subst (λ q. IfHint {T = ℕ} (Err c.in_err-length.field-0.0) (MisledBy q [] f)) same (c.in_err-length.ensures.misled told (subst Sound (sym same) sound) (subst (λ q. FileIsFrom q c.in_ok-file.file) (sym same) at.from)))

pub returns-in_err-leader-clause-reads : goal.returns-in_err-leader-clause-reads
returns-in_err-leader-clause-reads g c = λ told sound.
    let p = pack (g.D.Tape.tape c.args.disk.now) in
    let target = c.args.target.now in
    let f = c.in_ok-file.file.fid in
    let at = c.in_ok-file.ensures.found told sound in
    let same = looks_pack c.length_of.ensures.looks.looks told ∙ looks_pack c.find_target.ensures.looks.looks told in
    stops_of Leader p (line.Stat target) stat_text f c.in_err-leader.field-0.0 c.from_residual-in_err-leader.result c.from_residual-in_err-leader.ensures.1 sound (λ w. touches_file p target f at.is)
    c.in_err-leader.ensures.unrefused
    (subst (λ q. IfHint {T = Leader} (Err c.in_err-leader.field-0.0) (MisledBy q [] f)) same (c.in_err-leader.ensures.misled told (subst (λ q. FileIsFrom q c.in_ok-file.file) (sym same) at.from)))

pub returns-clause-reads : goal.returns-clause-reads
returns-clause-reads g c = λ told sound w taken.
    let p = pack (g.D.Tape.tape c.args.disk.now) in
    let target = c.args.target.now in
    let f = c.in_ok-file.file.fid in
    let first = looks_pack c.find_target.ensures.looks.looks told in
    let same = looks_pack c.length_of.ensures.looks.looks told ∙ first in
    record {
      said = stat_said p w target f c.in_ok-length.length (said c.in_ok-leader.leader) sound taken (c.in_ok-file.ensures.found told sound).is
          (ok_test (is_fid f disk_descriptor) c.in_ok-refuse_descriptor.field-0 refusal.SystemFile c.in_ok-refuse_descriptor.ensures)
          (c.in_ok-length.ensures.length told (subst Sound (sym first) sound) ∙ ap (λ q. file_length q f) first)
          (subst (λ q. IsLeaderOf q f (said c.in_ok-leader.leader)) same (c.in_ok-leader.ensures.leader told));
      refused = tt;
      misled = tt;
    }

pub returns-in_err-length-clause-looks : goal.returns-in_err-length-clause-looks
returns-in_err-length-clause-looks g c = looks_about_twice (65588 * 131074) (omega arith) c.find_target.ensures.looks c.length_of.ensures.looks

pub returns-in_err-leader-clause-looks : goal.returns-in_err-leader-clause-looks
returns-in_err-leader-clause-looks g c = looks_about_twice (65588 * 131074) (omega arith) c.find_target.ensures.looks (looks_about_twice 65639 (omega arith) c.length_of.ensures.looks c.read_leader.ensures.looks)

pub returns-clause-looks : goal.returns-clause-looks
returns-clause-looks g c = looks_about_twice (65588 * 131074) (omega arith) c.find_target.ensures.looks (looks_about_twice 65639 (omega arith) c.length_of.ensures.looks c.read_leader.ensures.looks)

pub returns-in_err-file-clause-cause : goal.returns-in_err-file-clause-cause
returns-in_err-file-clause-cause g c = cause_passed (g.D.Tape.tape c.args.disk.now) (g.D.Tape.tape c.find_target.new.disk) c.in_err-file.field-0.0 c.from_residual.result c.from_residual.ensures.1 c.in_err-file.ensures.cause

pub returns-in_err-refuse_descriptor-clause-cause : goal.returns-in_err-refuse_descriptor-clause-cause
returns-in_err-refuse_descriptor-clause-cause g c =
    cause_refused (g.D.Tape.tape c.args.disk.now) (g.D.Tape.tape c.find_target.new.disk) c.in_err-refuse_descriptor.field-0.0 refusal.SystemFile c.from_residual-in_err-refuse_descriptor.result c.from_residual-in_err-refuse_descriptor.ensures.1 (by_test (is_fid c.in_ok-file.file.fid disk_descriptor) c.in_err-refuse_descriptor.field-0.0 refusal.SystemFile c.in_err-refuse_descriptor.ensures).1 c.in_ok-file.ensures.cause

pub returns-in_err-length-clause-cause : goal.returns-in_err-length-clause-cause
returns-in_err-length-clause-cause g c =
    cause_after (g.D.Tape.tape c.args.disk.now) (g.D.Tape.tape c.find_target.new.disk) (g.D.Tape.tape c.length_of.new.disk) c.in_err-length.field-0.0 c.from_residual-in_err-length.result c.from_residual-in_err-length.ensures.1 c.in_ok-file.ensures.cause c.in_err-length.ensures.cause

pub returns-in_err-leader-clause-cause : goal.returns-in_err-leader-clause-cause
returns-in_err-leader-clause-cause g c =
    cause_after (g.D.Tape.tape c.args.disk.now) (g.D.Tape.tape c.length_of.new.disk) (g.D.Tape.tape c.read_leader.new.disk) c.in_err-leader.field-0.0 c.from_residual-in_err-leader.result c.from_residual-in_err-leader.ensures.1 (c.in_ok-length.ensures.cause ∙ c.in_ok-file.ensures.cause) c.in_err-leader.ensures.cause

pub returns-clause-cause : goal.returns-clause-cause
returns-clause-cause g c = c.in_ok-leader.ensures.cause ∙ c.in_ok-length.ensures.cause ∙ c.in_ok-file.ensures.cause

pub returns-in_err-file-clause-looks : goal.returns-in_err-file-clause-looks
returns-in_err-file-clause-looks g c = looks_most (65588 * 131074) (omega arith) c.in_err-file.ensures.looks

pub returns-in_err-refuse_descriptor-clause-looks : goal.returns-in_err-refuse_descriptor-clause-looks
returns-in_err-refuse_descriptor-clause-looks g c = looks_most (65588 * 131074) (omega arith) c.in_ok-file.ensures.looks
