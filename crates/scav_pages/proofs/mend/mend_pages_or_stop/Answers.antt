use Rattle.std.proofs.Common.{refl}
use Rattle.disk_records.proofs.Growing.{alone_here}
use Rattle.scav_pages.proofs.Causing.{cause_of_part}
use Rattle.scav_pages.proofs.Mending.{mends_or_ends, mends_or_stops}
use Rattle.scav_pages.proofs.mend.mend_pages_or_stop.Goals as goal

pub returns-clause-mends : goal.returns-clause-mends
returns-clause-mends g c = λ told ready.
    let a = g.D.Tape.tape c.args.disk.now in
    let b = g.D.Tape.tape c.mend.new.disk in
    mends_or_ends a b c.in_ok-mend.ensures.alone.grown c.mend.new.freed (c.in_ok-mend.ensures.does told ready)

pub returns-clause-cause : goal.returns-clause-cause
returns-clause-cause g c = c.in_ok-mend.ensures.cause

pub returns-in_err-mend-clause-mends : goal.returns-in_err-mend-clause-mends
returns-in_err-mend-clause-mends g c = λ told ready.
    let a = g.D.Tape.tape c.args.disk.now in
    let b = g.D.Tape.tape c.mend.new.disk in
    mends_or_stops a b c.in_err-mend.ensures.alone.grown c.mend.new.freed c.in_err-mend.field-0.0 c.from_residual.result (c.in_err-mend.ensures.does told ready) c.from_residual.ensures.1

pub returns-in_err-mend-clause-cause : goal.returns-in_err-mend-clause-cause
returns-in_err-mend-clause-cause g c = cause_of_part c.in_err-mend.field-0.0 c.from_residual.result (alone_here _) refl c.in_err-mend.ensures.alone c.in_err-mend.ensures.cause c.from_residual.ensures.1
