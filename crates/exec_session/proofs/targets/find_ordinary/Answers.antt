use Rattle.std.proofs.Common.{◌≡◌, Some, sym, ap, ◌∙◌}
use Rattle.disk_records.specs.Tapes.{pack}
use Rattle.exec_words.specs.declared.reply.Refusal.TheVariants as refusal
use Rattle.page_seeking.specs.declared.refs.FileRef.{FileRef}
use Rattle.session_model.specs.Operands.{no_directory}
use Rattle.exec_session.specs.Found.{IsNoneAt, operand, operand_refusal}
use Rattle.exec_session.proofs.OrdinaryFiles.{absent_refused, by_test, descriptor_refused, directory_refused, none_refused}
use Rattle.exec_session.proofs.Stopping.{refused_of_stop, hint_of_stop, hint_refused}
use Rattle.exec_session.proofs.Causing.{cause_passed, cause_refused, not_wanted, not_wanted_refused}
use Rattle.exec_session.proofs.Parts.{ok_of_error}
use Rattle.exec_session.proofs.targets.find_ordinary.Goals as goal

pub returns-in_err-file-clause-refused : goal.returns-in_err-file-clause-refused
returns-in_err-file-clause-refused g c = λ told sound.
    let p = pack (g.D.Tape.tape c.args.disk.now) in
    refused_of_stop FileRef (IsNoneAt p c.args.target.now) (λ r. operand_refusal p (operand c.args.target.now no_directory) ≡ Some r) c.in_err-file.field-0.0 c.from_residual.result c.from_residual.ensures.1
    (λ r none. absent_refused p c.args.target.now none.1 ∙ ap Some (sym none.0))
    (c.in_err-file.ensures.absent told sound)

pub returns-in_err-refuse_directory-clause-refused : goal.returns-in_err-refuse_directory-clause-refused
returns-in_err-refuse_directory-clause-refused g c = λ told sound.
    let p = pack (g.D.Tape.tape c.args.disk.now) in
    directory_refused p c.args.target.now c.in_ok-file.file.fid sound (c.in_ok-file.ensures.found told sound).is c.in_err-refuse_directory.field-0.0 c.from_residual-in_err-refuse_directory.result c.in_err-refuse_directory.ensures c.from_residual-in_err-refuse_directory.ensures.1

pub returns-in_err-refuse_descriptor-clause-refused : goal.returns-in_err-refuse_descriptor-clause-refused
returns-in_err-refuse_descriptor-clause-refused g c = λ told sound.
    let p = pack (g.D.Tape.tape c.args.disk.now) in
    descriptor_refused p c.args.target.now c.in_ok-file.file.fid sound (c.in_ok-file.ensures.found told sound).is c.in_ok-refuse_directory.field-0 c.in_err-refuse_descriptor.field-0.0 c.from_residual-in_err-refuse_descriptor.result c.in_ok-refuse_directory.ensures c.in_err-refuse_descriptor.ensures c.from_residual-in_err-refuse_descriptor.ensures.1

pub returns-clause-taken : goal.returns-clause-taken
returns-clause-taken g c = λ told sound.
    let p = pack (g.D.Tape.tape c.args.disk.now) in
    none_refused p c.args.target.now c.in_ok-file.file.fid sound (c.in_ok-file.ensures.found told sound).is c.in_ok-refuse_directory.field-0 c.in_ok-refuse_descriptor.field-0 c.in_ok-refuse_directory.ensures c.in_ok-refuse_descriptor.ensures

pub returns-in_err-file-clause-found : goal.returns-in_err-file-clause-found
returns-in_err-file-clause-found g c = λ told sound. ok_of_error _ _ c.from_residual.result c.from_residual.ensures.1

pub returns-in_err-file-clause-taken : goal.returns-in_err-file-clause-taken
returns-in_err-file-clause-taken g c = λ told sound. ok_of_error _ _ c.from_residual.result c.from_residual.ensures.1

pub returns-in_err-file-clause-ordinary : goal.returns-in_err-file-clause-ordinary
returns-in_err-file-clause-ordinary g c = ok_of_error _ _ c.from_residual.result c.from_residual.ensures.1

pub returns-in_err-file-clause-quick : goal.returns-in_err-file-clause-quick
returns-in_err-file-clause-quick g c = λ path told is handy. ok_of_error _ _ c.from_residual.result c.from_residual.ensures.1

pub returns-in_err-file-clause-cause : goal.returns-in_err-file-clause-cause
returns-in_err-file-clause-cause g c = cause_passed (g.D.Tape.tape c.args.disk.now) (g.D.Tape.tape c.find_target.new.disk) c.in_err-file.field-0.0 c.from_residual.result c.from_residual.ensures.1 c.in_err-file.ensures.cause

pub returns-in_err-file-clause-want : goal.returns-in_err-file-clause-want
returns-in_err-file-clause-want g c = λ told. not_wanted FileRef c.in_err-file.field-0.0 c.from_residual.result c.from_residual.ensures.1 (c.in_err-file.ensures.want told)

pub returns-in_err-file-clause-misled : goal.returns-in_err-file-clause-misled
returns-in_err-file-clause-misled g c = λ told sound. hint_of_stop FileRef _ _ c.in_err-file.field-0.0 c.from_residual.result c.from_residual.ensures.1 (λ place at wanted found h. h) (c.in_err-file.ensures.misled told sound)

pub returns-in_err-file-clause-looks : goal.returns-in_err-file-clause-looks
returns-in_err-file-clause-looks g c = c.in_err-file.ensures.looks

pub returns-in_err-refuse_directory-clause-found : goal.returns-in_err-refuse_directory-clause-found
returns-in_err-refuse_directory-clause-found g c = λ told sound. ok_of_error _ _ c.from_residual-in_err-refuse_directory.result c.from_residual-in_err-refuse_directory.ensures.1

pub returns-in_err-refuse_directory-clause-taken : goal.returns-in_err-refuse_directory-clause-taken
returns-in_err-refuse_directory-clause-taken g c = λ told sound. ok_of_error _ _ c.from_residual-in_err-refuse_directory.result c.from_residual-in_err-refuse_directory.ensures.1

pub returns-in_err-refuse_directory-clause-ordinary : goal.returns-in_err-refuse_directory-clause-ordinary
returns-in_err-refuse_directory-clause-ordinary g c = ok_of_error _ _ c.from_residual-in_err-refuse_directory.result c.from_residual-in_err-refuse_directory.ensures.1

pub returns-in_err-refuse_directory-clause-quick : goal.returns-in_err-refuse_directory-clause-quick
returns-in_err-refuse_directory-clause-quick g c = λ path told is handy. ok_of_error _ _ c.from_residual-in_err-refuse_directory.result c.from_residual-in_err-refuse_directory.ensures.1

pub returns-in_err-refuse_directory-clause-looks : goal.returns-in_err-refuse_directory-clause-looks
returns-in_err-refuse_directory-clause-looks g c = c.in_ok-file.ensures.looks

pub returns-in_err-refuse_descriptor-clause-found : goal.returns-in_err-refuse_descriptor-clause-found
returns-in_err-refuse_descriptor-clause-found g c = λ told sound. ok_of_error _ _ c.from_residual-in_err-refuse_descriptor.result c.from_residual-in_err-refuse_descriptor.ensures.1

pub returns-in_err-refuse_descriptor-clause-taken : goal.returns-in_err-refuse_descriptor-clause-taken
returns-in_err-refuse_descriptor-clause-taken g c = λ told sound. ok_of_error _ _ c.from_residual-in_err-refuse_descriptor.result c.from_residual-in_err-refuse_descriptor.ensures.1

pub returns-in_err-refuse_descriptor-clause-ordinary : goal.returns-in_err-refuse_descriptor-clause-ordinary
returns-in_err-refuse_descriptor-clause-ordinary g c = ok_of_error _ _ c.from_residual-in_err-refuse_descriptor.result c.from_residual-in_err-refuse_descriptor.ensures.1

pub returns-in_err-refuse_descriptor-clause-quick : goal.returns-in_err-refuse_descriptor-clause-quick
returns-in_err-refuse_descriptor-clause-quick g c = λ path told is handy. ok_of_error _ _ c.from_residual-in_err-refuse_descriptor.result c.from_residual-in_err-refuse_descriptor.ensures.1

pub returns-in_err-refuse_descriptor-clause-looks : goal.returns-in_err-refuse_descriptor-clause-looks
returns-in_err-refuse_descriptor-clause-looks g c = c.in_ok-file.ensures.looks

pub returns-clause-looks : goal.returns-clause-looks
returns-clause-looks g c = c.in_ok-file.ensures.looks

pub returns-in_err-refuse_directory-clause-misled : goal.returns-in_err-refuse_directory-clause-misled
returns-in_err-refuse_directory-clause-misled g c = λ told sound. hint_refused c.in_err-refuse_directory.field-0.0 refusal.IsADirectory c.from_residual-in_err-refuse_directory.result _ c.from_residual-in_err-refuse_directory.ensures.1 (by_test _ _ _ c.in_err-refuse_directory.ensures).1

pub returns-in_err-refuse_directory-clause-cause : goal.returns-in_err-refuse_directory-clause-cause
returns-in_err-refuse_directory-clause-cause g c = cause_refused (g.D.Tape.tape c.args.disk.now) (g.D.Tape.tape c.find_target.new.disk) c.in_err-refuse_directory.field-0.0 refusal.IsADirectory c.from_residual-in_err-refuse_directory.result c.from_residual-in_err-refuse_directory.ensures.1 (by_test _ _ _ c.in_err-refuse_directory.ensures).1 c.in_ok-file.ensures.cause

pub returns-in_err-refuse_directory-clause-want : goal.returns-in_err-refuse_directory-clause-want
returns-in_err-refuse_directory-clause-want g c = λ told. not_wanted_refused c.in_err-refuse_directory.field-0.0 refusal.IsADirectory c.from_residual-in_err-refuse_directory.result c.from_residual-in_err-refuse_directory.ensures.1 (by_test _ _ _ c.in_err-refuse_directory.ensures).1

pub returns-in_err-refuse_descriptor-clause-misled : goal.returns-in_err-refuse_descriptor-clause-misled
returns-in_err-refuse_descriptor-clause-misled g c = λ told sound. hint_refused c.in_err-refuse_descriptor.field-0.0 refusal.SystemFile c.from_residual-in_err-refuse_descriptor.result _ c.from_residual-in_err-refuse_descriptor.ensures.1 (by_test _ _ _ c.in_err-refuse_descriptor.ensures).1

pub returns-in_err-refuse_descriptor-clause-cause : goal.returns-in_err-refuse_descriptor-clause-cause
returns-in_err-refuse_descriptor-clause-cause g c = cause_refused (g.D.Tape.tape c.args.disk.now) (g.D.Tape.tape c.find_target.new.disk) c.in_err-refuse_descriptor.field-0.0 refusal.SystemFile c.from_residual-in_err-refuse_descriptor.result c.from_residual-in_err-refuse_descriptor.ensures.1 (by_test _ _ _ c.in_err-refuse_descriptor.ensures).1 c.in_ok-file.ensures.cause

pub returns-in_err-refuse_descriptor-clause-want : goal.returns-in_err-refuse_descriptor-clause-want
returns-in_err-refuse_descriptor-clause-want g c = λ told. not_wanted_refused c.in_err-refuse_descriptor.field-0.0 refusal.SystemFile c.from_residual-in_err-refuse_descriptor.result c.from_residual-in_err-refuse_descriptor.ensures.1 (by_test _ _ _ c.in_err-refuse_descriptor.ensures).1

pub returns-clause-found : goal.returns-clause-found
returns-clause-found g c = c.in_ok-file.ensures.found

pub returns-clause-refused : goal.returns-clause-refused
returns-clause-refused g c = λ told sound. tt

pub returns-clause-misled : goal.returns-clause-misled
returns-clause-misled g c = λ told sound. tt

pub returns-clause-cause : goal.returns-clause-cause
returns-clause-cause g c = c.in_ok-file.ensures.cause

pub returns-clause-want : goal.returns-clause-want
returns-clause-want g c = λ told is. cc

pub returns-clause-quick : goal.returns-clause-quick
returns-clause-quick g c = c.in_ok-file.ensures.quick
