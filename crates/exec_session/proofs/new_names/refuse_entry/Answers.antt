use Rattle.std.proofs.Common.{Err, arith, List, [], ap, refl, ℕ, ◌≡◌, subst}
use Rattle.page_seeking.specs.declared.refs.FileRef.{FileRef}
use Rattle.disk_records.specs.Tapes.{pack}
use Rattle.page_seeking.specs.Refs.{MisledBy}
use Rattle.directory.specs.Found.{IsAbsent}
use Rattle.exec_session.proofs.Looking.{hints_looked, looks_about_within}
use Rattle.exec_session.proofs.Causing.{cause_by_dir, cause_passed, not_wanted_by_dir, refused_unwanted}
use Rattle.exec_session.proofs.Stopping.{hint_of_dir, refused_as}
use Rattle.exec_session.proofs.NewNaming.{not_absent}
use Rattle.disk_records.specs.Causes.{never, other, IsCause}
use Rattle.exec_session.specs.Stops.{stop_of_dir}
use Rattle.exec_words.specs.declared.reply.Refusal.TheVariants.{NameTaken}
use Rattle.directory.specs.Errors.{cause_of}
use Rattle.directory.specs.declared.errors.DirError.{DirError}
use Rattle.exec_session.proofs.new_names.refuse_entry.Goals as goal

pub returns-in-Ok-clause-absent : goal.returns-in-Ok-clause-absent
returns-in-Ok-clause-absent g c = λ told there. rw c.refused.ensures tt

pub returns-in-Ok-clause-taken : goal.returns-in-Ok-clause-taken
returns-in-Ok-clause-taken g c = λ told there. refused_as (λ r. (r ≡ NameTaken) × (IsAbsent (pack (g.D.Tape.tape c.args.disk.now)) c.args.dir.now.fid c.args.wanted.now → ⊥)) c.refused.result NameTaken c.refused.ensures (refl, not_absent (pack (g.D.Tape.tape c.args.disk.now)) c.args.dir.now.fid c.args.wanted.now c.in-Ok.field-0 (c.in-Ok.ensures.found told there))

pub returns-in-Ok-clause-misled : goal.returns-in-Ok-clause-misled
returns-in-Ok-clause-misled g c = λ told there. rw c.refused.ensures tt

pub returns-in-Ok-clause-cause : goal.returns-in-Ok-clause-cause
returns-in-Ok-clause-cause g c = rw c.refused.ensures c.in-Ok.ensures.cause

pub returns-in-Ok-clause-want : goal.returns-in-Ok-clause-want
returns-in-Ok-clause-want g c = λ told. refused_unwanted c.refused.result NameTaken c.refused.ensures

pub returns-in-Ok-clause-looks : goal.returns-in-Ok-clause-looks
returns-in-Ok-clause-looks g c = looks_about_within 4298375168 (omega arith) (hints_looked c.args.session.now c.lookup.new.hints c.in-Ok.ensures.looks c.in-Ok.ensures.table c.in-Ok.ensures.refused c.in-Ok.ensures.handy)

pub returns-in-Err-NoSuchName-clause-absent : goal.returns-in-Err-NoSuchName-clause-absent
returns-in-Err-NoSuchName-clause-absent g c = λ told there. c.in-Err-NoSuchName.ensures.absent told there (ap Err c.in-Err-NoSuchName.field-0-is)

pub returns-in-Err-NoSuchName-clause-taken : goal.returns-in-Err-NoSuchName-clause-taken
returns-in-Err-NoSuchName-clause-taken g c = λ told there. tt

pub returns-in-Err-NoSuchName-clause-misled : goal.returns-in-Err-NoSuchName-clause-misled
returns-in-Err-NoSuchName-clause-misled g c = λ told there. tt

pub returns-in-Err-NoSuchName-clause-cause : goal.returns-in-Err-NoSuchName-clause-cause
returns-in-Err-NoSuchName-clause-cause g c = subst (λ (e : DirError). IsCause (g.D.Tape.tape c.args.disk.now) (g.D.Tape.tape c.lookup.new.disk) (cause_of other never never e)) c.in-Err-NoSuchName.field-0-is c.in-Err-NoSuchName.ensures.cause

pub returns-in-Err-NoSuchName-clause-want : goal.returns-in-Err-NoSuchName-clause-want
returns-in-Err-NoSuchName-clause-want g c = λ told is. cc

pub returns-in-Err-NoSuchName-clause-looks : goal.returns-in-Err-NoSuchName-clause-looks
returns-in-Err-NoSuchName-clause-looks g c = looks_about_within 4298375168 (omega arith) (hints_looked c.args.session.now c.lookup.new.hints c.in-Err-NoSuchName.ensures.looks c.in-Err-NoSuchName.ensures.table c.in-Err-NoSuchName.ensures.refused c.in-Err-NoSuchName.ensures.handy)

pub returns-in-Err-clause-absent : goal.returns-in-Err-clause-absent
returns-in-Err-clause-absent g c = λ told there. tt

pub returns-in-Err-clause-misled : goal.returns-in-Err-clause-misled
returns-in-Err-clause-misled g c = λ told there. hint_of_dir (FileRef × List ℕ) {U = Unit {0}} (MisledBy (pack (g.D.Tape.tape c.args.disk.now)) [] c.args.dir.now.fid) (MisledBy (pack (g.D.Tape.tape c.args.disk.now)) [] c.args.dir.now.fid) c.in-Err.error (Err c.from.result) c.from.ensures (λ place at wanted found h. h) (c.in-Err.ensures.misled told there)

pub returns-in-Err-clause-cause : goal.returns-in-Err-clause-cause
returns-in-Err-clause-cause g c = cause_passed {U = Unit {0}} (g.D.Tape.tape c.args.disk.now) (g.D.Tape.tape c.lookup.new.disk) (stop_of_dir c.in-Err.error) (Err c.from.result) c.from.ensures (cause_by_dir other never never tt tt tt (g.D.Tape.tape c.args.disk.now) (g.D.Tape.tape c.lookup.new.disk) c.in-Err.error c.in-Err.ensures.cause)

pub returns-in-Err-clause-want : goal.returns-in-Err-clause-want
returns-in-Err-clause-want g c = λ told. not_wanted_by_dir {U = Unit {0}} (FileRef × List ℕ) c.in-Err.error (Err c.from.result) c.from.ensures (c.in-Err.ensures.want told)

pub returns-in-Err-clause-looks : goal.returns-in-Err-clause-looks
returns-in-Err-clause-looks g c = looks_about_within 4298375168 (omega arith) (hints_looked c.args.session.now c.lookup.new.hints c.in-Err.ensures.looks c.in-Err.ensures.table c.in-Err.ensures.refused c.in-Err.ensures.handy)
