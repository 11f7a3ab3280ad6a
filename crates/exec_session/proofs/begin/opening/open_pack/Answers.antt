use Rattle.disk_records.specs.Tapes.{pack}
use Rattle.disk_records.proofs.Looking.{looks_none}
use Rattle.exec_session.specs.Opens.{Refuses}
use Rattle.exec_session.proofs.PackOpening.{ok_of_open_error, open_cause, passed_on}
use Rattle.std.proofs.Common.{refl}
use Rattle.exec_session.proofs.begin.opening.open_pack.Goals as goal

-- ---- no memory is left for the hints
pub returns-in-Err-clause-opened : goal.returns-in-Err-clause-opened
returns-in-Err-clause-opened g c = λ told once. tt

pub returns-in-Err-clause-refused : goal.returns-in-Err-clause-refused
returns-in-Err-clause-refused g c = λ told once. tt

pub returns-in-Err-clause-formed : goal.returns-in-Err-clause-formed
returns-in-Err-clause-formed g c = tt

pub returns-in-Err-clause-cause : goal.returns-in-Err-clause-cause
returns-in-Err-clause-cause g c = refl

pub returns-in-Err-clause-looks : goal.returns-in-Err-clause-looks
returns-in-Err-clause-looks g c = looks_none 8596750336 (g.D.Tape.tape c.args.disk.now)

pub returns-in-Err-clause-clean : goal.returns-in-Err-clause-clean
returns-in-Err-clause-clean g c = tt

pub returns-in-Err-clause-clean_page : goal.returns-in-Err-clause-clean_page
returns-in-Err-clause-clean_page g c = λ told. tt

-- ---- it isn't entered
pub returns-in_err-descriptor-clause-clean : goal.returns-in_err-descriptor-clause-clean
returns-in_err-descriptor-clause-clean g c = ok_of_open_error _ _ c.from_residual.result c.from_residual.ensures.1

pub returns-in_err-descriptor-clause-clean_page : goal.returns-in_err-descriptor-clause-clean_page
returns-in_err-descriptor-clause-clean_page g c = λ told. ok_of_open_error _ _ c.from_residual.result c.from_residual.ensures.1

pub returns-in_err-descriptor-clause-opened : goal.returns-in_err-descriptor-clause-opened
returns-in_err-descriptor-clause-opened g c = λ told once. ok_of_open_error _ _ c.from_residual.result c.from_residual.ensures.1

pub returns-in_err-descriptor-clause-refused : goal.returns-in_err-descriptor-clause-refused
returns-in_err-descriptor-clause-refused g c = λ told once. passed_on (Refuses (pack (g.D.Tape.tape c.args.disk.now))) c.from_residual.result c.from_residual.ensures.1 (c.in_err-descriptor.ensures.refused told once)

pub returns-in_err-descriptor-clause-formed : goal.returns-in_err-descriptor-clause-formed
returns-in_err-descriptor-clause-formed g c = ok_of_open_error _ _ c.from_residual.result c.from_residual.ensures.1

pub returns-in_err-descriptor-clause-cause : goal.returns-in_err-descriptor-clause-cause
returns-in_err-descriptor-clause-cause g c = open_cause (g.D.Tape.tape c.args.disk.now) (g.D.Tape.tape c.enter_found.new.disk) c.in_err-descriptor.field-0.0 c.from_residual.result c.from_residual.ensures.1 c.in_err-descriptor.ensures.cause

pub returns-in_err-descriptor-clause-looks : goal.returns-in_err-descriptor-clause-looks
returns-in_err-descriptor-clause-looks g c = c.in_err-descriptor.ensures.looks

-- ---- it is
pub returns-clause-clean : goal.returns-clause-clean
returns-clause-clean g c = c.in_ok-descriptor.ensures.clean

pub returns-clause-clean_page : goal.returns-clause-clean_page
returns-clause-clean_page g c = c.in_ok-descriptor.ensures.clean_page

pub returns-clause-opened : goal.returns-clause-opened
returns-clause-opened g c = c.in_ok-descriptor.ensures.opened

pub returns-clause-refused : goal.returns-clause-refused
returns-clause-refused g c = λ told once. tt

pub returns-clause-cause : goal.returns-clause-cause
returns-clause-cause g c = c.in_ok-descriptor.ensures.cause

pub returns-clause-looks : goal.returns-clause-looks
returns-clause-looks g c = c.in_ok-descriptor.ensures.looks
