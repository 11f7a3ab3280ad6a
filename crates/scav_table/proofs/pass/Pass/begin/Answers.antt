use Rattle.std.proofs.Common.{None, refl}
use Rattle.scav_table.proofs.Causing.{cause_of_call, want_of_call}
use Rattle.scav_table.proofs.Standing.{stands_filled}
use Rattle.scav_table.proofs.pass.Pass.begin.Goals as goal

pub returns-clause-stands : goal.returns-clause-stands
returns-clause-stands g c = stands_filled None None c.rewind.new.self (g.met.D.Disk.sized c.args.disk.now) c.in_ok-rewind.ensures.looks c.in_ok-rewind.ensures.window c.in_ok-rewind.ensures.bound (λ x e. e) (λ k. refl)

pub returns-in_err-rewind-clause-cause : goal.returns-in_err-rewind-clause-cause
returns-in_err-rewind-clause-cause g c = cause_of_call (g.D.Tape.tape c.args.disk.now) (g.D.Tape.tape c.rewind.new.disk) c.in_err-rewind.field-0.0 c.from_residual.result c.in_err-rewind.ensures.cause c.from_residual.ensures.1

pub returns-in_err-rewind-clause-want : goal.returns-in_err-rewind-clause-want
returns-in_err-rewind-clause-want g c = want_of_call c.in_err-rewind.field-0.0 c.from_residual.result c.in_err-rewind.ensures.want c.from_residual.ensures.1
