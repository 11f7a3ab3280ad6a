use Rattle.std.proofs.Common.{ℕ, Option, List, [], Err, ap, subst, arith}
use Rattle.disk_records.specs.Causes.{IsCause, never, other}
use Rattle.disk_records.specs.Tapes.{pack}
use Rattle.directory.specs.Errors.{cause_of}
use Rattle.directory.specs.declared.errors.DirError.{DirError}
use Rattle.page_seeking.specs.Refs.{MisledBy}
use Rattle.page_seeking.specs.declared.refs.FileRef.{FileRef}
use Rattle.exec_session.proofs.Finding.{looked_up, looked_up_none}
use Rattle.exec_session.proofs.Looking.{hints_looked, looks_about_within}
use Rattle.exec_session.proofs.Causing.{cause_by_dir, cause_passed, not_wanted_by_dir}
use Rattle.exec_session.proofs.Stopping.{hint_of_dir}
use Rattle.exec_session.specs.Stops.{stop_of_dir}
use Rattle.exec_session.proofs.operands.find_in.Goals as goal

-- ---- an entry is there
pub returns-in-Ok-clause-found : goal.returns-in-Ok-clause-found
returns-in-Ok-clause-found g c = λ told sound there.
    let at = looked_up (pack (g.D.Tape.tape c.args.disk.now)) c.args.dir.now c.args.wanted.now c.in-Ok.found sound there (c.in-Ok.ensures.found told there) in
    record { is = at.is; from = at.from }

pub returns-in-Ok-clause-unrefused : goal.returns-in-Ok-clause-unrefused
returns-in-Ok-clause-unrefused g c = tt

pub returns-in-Ok-clause-misled : goal.returns-in-Ok-clause-misled
returns-in-Ok-clause-misled g c = λ told there. tt

pub returns-in-Ok-clause-cause : goal.returns-in-Ok-clause-cause
returns-in-Ok-clause-cause g c = c.in-Ok.ensures.cause

pub returns-in-Ok-clause-want : goal.returns-in-Ok-clause-want
returns-in-Ok-clause-want g c = λ told is. cc

pub returns-in-Ok-clause-looks : goal.returns-in-Ok-clause-looks
returns-in-Ok-clause-looks g c = looks_about_within 4298375168 (omega arith) (hints_looked c.args.session.now c.lookup.new.hints c.in-Ok.ensures.looks c.in-Ok.ensures.table c.in-Ok.ensures.refused c.in-Ok.ensures.handy)

pub returns-in-Ok-clause-quick : goal.returns-in-Ok-clause-quick
returns-in-Ok-clause-quick g c = λ told quick. c.in-Ok.ensures.quick told quick

-- ---- none is
pub returns-in-Err-NoSuchName-clause-found : goal.returns-in-Err-NoSuchName-clause-found
returns-in-Err-NoSuchName-clause-found g c = λ told sound there. record {
  is = looked_up_none (pack (g.D.Tape.tape c.args.disk.now)) c.args.dir.now c.args.wanted.now sound there (c.in-Err-NoSuchName.ensures.absent told there (ap Err c.in-Err-NoSuchName.field-0-is));
  from = tt;
}

pub returns-in-Err-NoSuchName-clause-unrefused : goal.returns-in-Err-NoSuchName-clause-unrefused
returns-in-Err-NoSuchName-clause-unrefused g c = tt

pub returns-in-Err-NoSuchName-clause-misled : goal.returns-in-Err-NoSuchName-clause-misled
returns-in-Err-NoSuchName-clause-misled g c = λ told there. tt

pub returns-in-Err-NoSuchName-clause-cause : goal.returns-in-Err-NoSuchName-clause-cause
returns-in-Err-NoSuchName-clause-cause g c = subst (λ (e : DirError). IsCause (g.D.Tape.tape c.args.disk.now) (g.D.Tape.tape c.lookup.new.disk) (cause_of other never never e)) c.in-Err-NoSuchName.field-0-is c.in-Err-NoSuchName.ensures.cause

pub returns-in-Err-NoSuchName-clause-want : goal.returns-in-Err-NoSuchName-clause-want
returns-in-Err-NoSuchName-clause-want g c = λ told is. cc

pub returns-in-Err-NoSuchName-clause-looks : goal.returns-in-Err-NoSuchName-clause-looks
returns-in-Err-NoSuchName-clause-looks g c =
    looks_about_within 4298375168 (omega arith) (hints_looked c.args.session.now c.lookup.new.hints c.in-Err-NoSuchName.ensures.looks c.in-Err-NoSuchName.ensures.table c.in-Err-NoSuchName.ensures.refused c.in-Err-NoSuchName.ensures.handy)

pub returns-in-Err-NoSuchName-clause-quick : goal.returns-in-Err-NoSuchName-clause-quick
returns-in-Err-NoSuchName-clause-quick g c = λ told quick. c.in-Err-NoSuchName.ensures.quick_absent told quick (ap Err c.in-Err-NoSuchName.field-0-is)

-- ---- the directory isn't read
pub returns-in-Err-clause-found : goal.returns-in-Err-clause-found
returns-in-Err-clause-found g c = λ told sound there. tt

pub returns-in-Err-clause-misled : goal.returns-in-Err-clause-misled
returns-in-Err-clause-misled g c = λ told there.
    let P = MisledBy (pack (g.D.Tape.tape c.args.disk.now)) [] c.args.dir.now.fid in
    hint_of_dir (FileRef × List ℕ) {U = Option (FileRef × List ℕ)} P P c.in-Err.error (Err c.from.result) c.from.ensures (λ place at wanted found h. h) (c.in-Err.ensures.misled told there)

pub returns-in-Err-clause-cause : goal.returns-in-Err-clause-cause
returns-in-Err-clause-cause g c =
    cause_passed {U = Option (FileRef × List ℕ)} (g.D.Tape.tape c.args.disk.now) (g.D.Tape.tape c.lookup.new.disk) (stop_of_dir c.in-Err.error) (Err c.from.result) c.from.ensures
    (cause_by_dir other never never tt tt tt (g.D.Tape.tape c.args.disk.now) (g.D.Tape.tape c.lookup.new.disk) c.in-Err.error c.in-Err.ensures.cause)

pub returns-in-Err-clause-want : goal.returns-in-Err-clause-want
returns-in-Err-clause-want g c = λ told. not_wanted_by_dir {U = Option (FileRef × List ℕ)} (FileRef × List ℕ) c.in-Err.error (Err c.from.result) c.from.ensures (c.in-Err.ensures.want told)

pub returns-in-Err-clause-looks : goal.returns-in-Err-clause-looks
returns-in-Err-clause-looks g c = looks_about_within 4298375168 (omega arith) (hints_looked c.args.session.now c.lookup.new.hints c.in-Err.ensures.looks c.in-Err.ensures.table c.in-Err.ensures.refused c.in-Err.ensures.handy)

pub returns-in-Err-clause-quick : goal.returns-in-Err-clause-quick
returns-in-Err-clause-quick g c = λ told quick. tt
