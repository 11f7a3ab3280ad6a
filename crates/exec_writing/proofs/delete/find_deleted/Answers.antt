use Rattle.std.proofs.Common.{Some, refl, ◌∙◌}
use Rattle.alto_words.specs.Fid.{disk_descriptor, is_directory, is_fid}
use Rattle.disk_records.specs.Tapes.{pack}
use Rattle.exec_words.specs.declared.line.Line.TheVariants as line
use Rattle.exec_words.specs.declared.reply.Refusal.TheVariants as refusal
use Rattle.session_model.specs.Keeping.{world_of}
use Rattle.session_model.specs.Refusals.{is_streamed}
use Rattle.exec_session.proofs.OrdinaryFiles.{ok_test, by_test}
use Rattle.exec_session.specs.Meant.{kept}
use Rattle.exec_writing.proofs.DropFinding.{delete_absent, delete_descriptor, delete_directory, delete_found, delete_streamed, test_refused, unfound}
use Rattle.exec_session.proofs.Causing.{cause_refused}
use Rattle.exec_writing.proofs.Streamed.{none_has, one_has, same_test}
use Rattle.exec_steps.proofs.Frames.{cause_passed}
use Rattle.exec_writing.proofs.delete.find_deleted.Goals as goal

pub returns-in_err-found-clause-finds : goal.returns-in_err-found-clause-finds
returns-in_err-found-clause-finds g c = λ told sound taken.
    let p = pack (g.D.Tape.tape c.args.disk.now) in
    let w = world_of (kept c.args.session.now) in
    let path = c.args.path.now in
    unfound p (line.Delete path) w path c.in_err-found.field-0.0 c.from_residual.result c.from_residual.ensures.1 refl (delete_absent p w path taken) (c.in_err-found.ensures.absent told sound) (c.in_err-found.ensures.misled told sound)

pub returns-in_err-refuse_directory-clause-finds : goal.returns-in_err-refuse_directory-clause-finds
returns-in_err-refuse_directory-clause-finds g c = λ told sound taken.
    let p = pack (g.D.Tape.tape c.args.disk.now) in
    let w = world_of (kept c.args.session.now) in
    let path = c.args.path.now in
    let found = c.in_ok-found.found in
    test_refused p (line.Delete path) w (is_directory found.file.fid) refusal.IsADirectory c.in_err-refuse_directory.field-0.0 c.from_residual-in_err-refuse_directory.result c.from_residual-in_err-refuse_directory.ensures.1 c.in_err-refuse_directory.ensures
    (delete_directory p w path taken found sound (c.in_ok-found.ensures.found told sound))

pub returns-in_err-refuse_descriptor-clause-finds : goal.returns-in_err-refuse_descriptor-clause-finds
returns-in_err-refuse_descriptor-clause-finds g c = λ told sound taken.
    let p = pack (g.D.Tape.tape c.args.disk.now) in
    let w = world_of (kept c.args.session.now) in
    let path = c.args.path.now in
    let found = c.in_ok-found.found in
    let ordinary = ok_test (is_directory found.file.fid) c.in_ok-refuse_directory.field-0 refusal.IsADirectory c.in_ok-refuse_directory.ensures in
    test_refused p (line.Delete path) w (is_fid found.file.fid disk_descriptor) refusal.SystemFile c.in_err-refuse_descriptor.field-0.0 c.from_residual-in_err-refuse_descriptor.result c.from_residual-in_err-refuse_descriptor.ensures.1 c.in_err-refuse_descriptor.ensures
    (delete_descriptor p w path taken found sound (c.in_ok-found.ensures.found told sound) ordinary)

pub returns-in_err-refuse_streamed-clause-finds : goal.returns-in_err-refuse_streamed-clause-finds
returns-in_err-refuse_streamed-clause-finds g c = λ told sound taken.
    let p = pack (g.D.Tape.tape c.args.disk.now) in
    let w = world_of (kept c.args.session.now) in
    let path = c.args.path.now in
    let found = c.in_ok-found.found in
    let ordinary = ok_test (is_directory found.file.fid) c.in_ok-refuse_directory.field-0 refusal.IsADirectory c.in_ok-refuse_directory.ensures in
    let other = ok_test (is_fid found.file.fid disk_descriptor) c.in_ok-refuse_descriptor.field-0 refusal.SystemFile c.in_ok-refuse_descriptor.ensures in
    test_refused p (line.Delete path) w (is_streamed (world_of (kept c.find_path.new.session)) (Some found.file.fid)) refusal.StreamsOpen c.in_err-refuse_streamed.field-0.0 c.from_residual-in_err-refuse_streamed.result c.from_residual-in_err-refuse_streamed.ensures.1 c.in_err-refuse_streamed.ensures
    (λ has. delete_streamed p w path taken found sound (c.in_ok-found.ensures.found told sound) ordinary other (same_test c.in_ok-found.ensures.looks.looked found.file.fid ∙ has))

pub returns-clause-finds : goal.returns-clause-finds
returns-clause-finds g c = λ told sound taken.
    let p = pack (g.D.Tape.tape c.args.disk.now) in
    let w = world_of (kept c.args.session.now) in
    let path = c.args.path.now in
    let found = c.in_ok-found.found in
    let ordinary = ok_test (is_directory found.file.fid) c.in_ok-refuse_directory.field-0 refusal.IsADirectory c.in_ok-refuse_directory.ensures in
    let other = ok_test (is_fid found.file.fid disk_descriptor) c.in_ok-refuse_descriptor.field-0 refusal.SystemFile c.in_ok-refuse_descriptor.ensures in
    let none = none_has c.in_ok-found.ensures.looks.looked found.file.fid c.in_ok-refuse_streamed.field-0 c.in_ok-refuse_streamed.ensures in
    record { found = delete_found p w path taken found sound (c.in_ok-found.ensures.found told sound) ordinary other none; refused = tt; misled = tt }

pub returns-in_err-found-clause-cause : goal.returns-in_err-found-clause-cause
returns-in_err-found-clause-cause g c = cause_passed (g.D.Tape.tape c.args.disk.now) (g.D.Tape.tape c.find_path.new.disk) c.in_err-found.field-0.0 c.from_residual.result c.from_residual.ensures.1 c.in_err-found.ensures.cause

pub returns-in_err-refuse_directory-clause-cause : goal.returns-in_err-refuse_directory-clause-cause
returns-in_err-refuse_directory-clause-cause g c =
    cause_refused (g.D.Tape.tape c.args.disk.now) (g.D.Tape.tape c.find_path.new.disk) c.in_err-refuse_directory.field-0.0 refusal.IsADirectory c.from_residual-in_err-refuse_directory.result c.from_residual-in_err-refuse_directory.ensures.1 (by_test (is_directory c.in_ok-found.found.file.fid) c.in_err-refuse_directory.field-0.0 refusal.IsADirectory c.in_err-refuse_directory.ensures).1 c.in_ok-found.ensures.cause

pub returns-in_err-refuse_descriptor-clause-cause : goal.returns-in_err-refuse_descriptor-clause-cause
returns-in_err-refuse_descriptor-clause-cause g c =
    cause_refused (g.D.Tape.tape c.args.disk.now) (g.D.Tape.tape c.find_path.new.disk) c.in_err-refuse_descriptor.field-0.0 refusal.SystemFile c.from_residual-in_err-refuse_descriptor.result c.from_residual-in_err-refuse_descriptor.ensures.1 (by_test (is_fid c.in_ok-found.found.file.fid disk_descriptor) c.in_err-refuse_descriptor.field-0.0 refusal.SystemFile c.in_err-refuse_descriptor.ensures).1 c.in_ok-found.ensures.cause

pub returns-in_err-refuse_streamed-clause-cause : goal.returns-in_err-refuse_streamed-clause-cause
returns-in_err-refuse_streamed-clause-cause g c =
    cause_refused (g.D.Tape.tape c.args.disk.now) (g.D.Tape.tape c.find_path.new.disk) c.in_err-refuse_streamed.field-0.0 refusal.StreamsOpen c.from_residual-in_err-refuse_streamed.result c.from_residual-in_err-refuse_streamed.ensures.1
    (one_has c.in_ok-found.ensures.looks.looked c.in_ok-found.found.file.fid c.in_err-refuse_streamed.field-0.0 c.in_err-refuse_streamed.ensures).1 c.in_ok-found.ensures.cause

pub returns-clause-cause : goal.returns-clause-cause
returns-clause-cause g c = c.in_ok-found.ensures.cause

pub returns-in_err-found-clause-looks : goal.returns-in_err-found-clause-looks
returns-in_err-found-clause-looks g c = c.in_err-found.ensures.looks

pub returns-in_err-refuse_directory-clause-looks : goal.returns-in_err-refuse_directory-clause-looks
returns-in_err-refuse_directory-clause-looks g c = c.in_ok-found.ensures.looks

pub returns-in_err-refuse_descriptor-clause-looks : goal.returns-in_err-refuse_descriptor-clause-looks
returns-in_err-refuse_descriptor-clause-looks g c = c.in_ok-found.ensures.looks

pub returns-in_err-refuse_streamed-clause-looks : goal.returns-in_err-refuse_streamed-clause-looks
returns-in_err-refuse_streamed-clause-looks g c = c.in_ok-found.ensures.looks

pub returns-clause-looks : goal.returns-clause-looks
returns-clause-looks g c = c.in_ok-found.ensures.looks
