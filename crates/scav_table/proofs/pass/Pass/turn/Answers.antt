use Rattle.std.proofs.Common.{◌≡◌, arith}
use Rattle.scav_table.proofs.Causing.{cause_of_call, want_of_call}
use Rattle.scav_table.proofs.Standing.{stands_filled, bound_above, same_above_bound}
use Rattle.scav_table.proofs.pass.Pass.turn.Goals as goal

pub returns-in_ok-advance-clause-stands : goal.returns-in_ok-advance-clause-stands
returns-in_ok-advance-clause-stands g c =
    let read = c.in_ok-advance.ensures in
    let full : c.args.self.now.place ≡ 1024 = omega arith in
    stands_filled c.args.table.now.bound c.args.self.now.last c.advance.new.self (g.met.D.Disk.sized c.args.disk.now) read.looks read.window read.bound (bound_above c.requires full) (same_above_bound c.requires full)

pub returns-in_err-advance-clause-cause : goal.returns-in_err-advance-clause-cause
returns-in_err-advance-clause-cause g c = cause_of_call (g.D.Tape.tape c.args.disk.now) (g.D.Tape.tape c.advance.new.disk) c.in_err-advance.field-0.0 c.from_residual.result c.in_err-advance.ensures.cause c.from_residual.ensures.1

pub returns-in_err-advance-clause-want : goal.returns-in_err-advance-clause-want
returns-in_err-advance-clause-want g c = want_of_call c.in_err-advance.field-0.0 c.from_residual.result c.in_err-advance.ensures.want c.from_residual.ensures.1
