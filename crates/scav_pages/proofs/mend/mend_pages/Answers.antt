use Rattle.std.proofs.Common.{◌≡◌, Err, Ok, rules, subst}
use Rattle.scav_pages.specs.declared.errors.Stop.TheVariants.{Astray, DiskFault, Memory}
use Rattle.scav_pages.proofs.Mending.{DoesMend, mends_astray, mends_fault, mends_memory, mends_ok}
use Rattle.scav_pages.proofs.mend.mend_pages.Goals as goal

pub returns-in-Ok-clause-mends : goal.returns-in-Ok-clause-mends
returns-in-Ok-clause-mends g c = λ told ready.
    let a = g.D.Tape.tape c.args.disk.now in
    let b = g.D.Tape.tape c.mend.new.disk in
    let is : c.mend.result ≡ Ok tt = search rules in
    mends_ok a b c.mend.ensures.alone.grown c.mend.new.freed (subst (DoesMend a b c.mend.ensures.alone.grown c.mend.new.freed) is (c.mend.ensures.does told ready))

pub returns-in-Ok-clause-cause : goal.returns-in-Ok-clause-cause
returns-in-Ok-clause-cause g c = c.in-Ok.ensures.cause

pub returns-in-Err-DiskFault-clause-mends : goal.returns-in-Err-DiskFault-clause-mends
returns-in-Err-DiskFault-clause-mends g c = λ told ready.
    let a = g.D.Tape.tape c.args.disk.now in
    let b = g.D.Tape.tape c.mend.new.disk in
    let is : c.mend.result ≡ Err DiskFault = search rules in
    mends_fault a b c.mend.ensures.alone.grown c.mend.new.freed (subst (DoesMend a b c.mend.ensures.alone.grown c.mend.new.freed) is (c.mend.ensures.does told ready))

pub returns-in-Err-Memory-clause-mends : goal.returns-in-Err-Memory-clause-mends
returns-in-Err-Memory-clause-mends g c = λ told ready.
    let a = g.D.Tape.tape c.args.disk.now in
    let b = g.D.Tape.tape c.mend.new.disk in
    let is : c.mend.result ≡ Err Memory = search rules in
    mends_memory a b c.mend.ensures.alone.grown c.mend.new.freed (subst (DoesMend a b c.mend.ensures.alone.grown c.mend.new.freed) is (c.mend.ensures.does told ready))

pub returns-in-Err-Astray-clause-mends : goal.returns-in-Err-Astray-clause-mends
returns-in-Err-Astray-clause-mends g c = λ told ready.
    let a = g.D.Tape.tape c.args.disk.now in
    let b = g.D.Tape.tape c.mend.new.disk in
    let is : c.mend.result ≡ Err Astray = search rules in
    mends_astray a b c.mend.ensures.alone.grown c.mend.new.freed (subst (DoesMend a b c.mend.ensures.alone.grown c.mend.new.freed) is (c.mend.ensures.does told ready))
