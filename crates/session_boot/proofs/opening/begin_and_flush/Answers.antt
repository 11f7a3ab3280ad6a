use Rattle.std.proofs.Common.{Err, refl, subst, sym}
use Rattle.disk_records.proofs.Growing.{alone_twice}
use Rattle.disk_records.specs.Tapes.{pack}
use Rattle.exec_session.specs.Opens.{Opens, cause_of_open}
use Rattle.executive.specs.disk_descriptor.specs.declared.errors.OpenError.TheVariants as error
use Rattle.session_boot.proofs.Flushed.{flushed_cause}
use Rattle.session_boot.proofs.opening.begin_and_flush.Goals as goal

pub returns-in-Err-clause-opens : goal.returns-in-Err-clause-opens
returns-in-Err-clause-opens g c = λ told once.
    let same = c.error_after_flush.ensures.told told in
    subst (λ e. Opens (pack (g.D.Tape.tape c.args.disk.now)) c.args.moment c.args.limit (Err e)) (sym same.0) (c.in-Err.ensures.opens told once)

pub returns-in-Err-clause-silent : goal.returns-in-Err-clause-silent
returns-in-Err-clause-silent g c = λ told. let same = c.error_after_flush.ensures.told told in rw same.1 (c.begin.ensures.silent told)

pub returns-in-Err-clause-cause : goal.returns-in-Err-clause-cause
returns-in-Err-clause-cause g c = flushed_cause cause_of_open error.DiskFault refl _ _ _ c.in-Err.error c.error_after_flush.result c.begin.ensures.alone.grown c.error_after_flush.ensures.alone.grown c.error_after_flush.ensures.cause c.in-Err.ensures.cause

pub returns-in-Err-clause-alone : goal.returns-in-Err-clause-alone
returns-in-Err-clause-alone g c = alone_twice c.begin.ensures.alone c.error_after_flush.ensures.alone
