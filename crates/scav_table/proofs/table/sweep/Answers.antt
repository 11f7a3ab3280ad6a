use Rattle.scav_table.proofs.Causing.{cause_of_call}
use Rattle.scav_table.proofs.table.sweep.Goals as goal

pub returns-clause-cause : goal.returns-clause-cause
returns-clause-cause g c = c.in_ok-bad.ensures.cause

pub returns-in_err-bad-clause-cause : goal.returns-in_err-bad-clause-cause
returns-in_err-bad-clause-cause g c = cause_of_call (g.D.Tape.tape c.args.disk.now) (g.D.Tape.tape c.refill.new.disk) c.in_err-bad.field-0.0 c.from_residual-in_err-bad.result c.in_err-bad.ensures.cause c.from_residual-in_err-bad.ensures.1
