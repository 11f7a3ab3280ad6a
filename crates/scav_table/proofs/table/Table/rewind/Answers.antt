use Rattle.scav_table.proofs.Causing.{cause_of_call, want_of_call}
use Rattle.scav_table.proofs.table.Table.rewind.Goals as goal

pub returns-in_err-self-inside-clause-cause : goal.returns-in_err-self-inside-clause-cause
returns-in_err-self-inside-clause-cause g c = cause_of_call (g.D.Tape.tape c.args.disk.now) (g.D.Tape.tape c.refill.new.disk) c.in_err-self-inside.field-0.0 c.from_residual.result c.in_err-self-inside.ensures.cause c.from_residual.ensures.1

pub returns-in_err-self-inside-clause-want : goal.returns-in_err-self-inside-clause-want
returns-in_err-self-inside-clause-want g c = want_of_call c.in_err-self-inside.field-0.0 c.from_residual.result c.in_err-self-inside.ensures.want c.from_residual.ensures.1
