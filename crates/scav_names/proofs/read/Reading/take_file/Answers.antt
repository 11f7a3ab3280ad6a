use Rattle.std.proofs.Common.{refl}
use Rattle.disk_records.proofs.Growing.{alone_here}
use Rattle.scav_pages.specs.declared.errors.Stop.TheVariants.{Memory}
use Rattle.scav_pages.proofs.Causing.{cause_of_part}
use Rattle.scav_names.proofs.Erring.{found_memory, found_part}
use Rattle.scav_names.proofs.read.Reading.take_file.Goals as goal

pub returns-in_err-file-clause-cause : goal.returns-in_err-file-clause-cause
returns-in_err-file-clause-cause g c = cause_of_part c.in_err-file.field-0.0 c.from_residual.result (alone_here _) refl c.in_err-file.ensures.looks.alone c.in_err-file.ensures.cause c.from_residual.ensures.1

pub returns-in_err-push-clause-cause : goal.returns-in_err-push-clause-cause
returns-in_err-push-clause-cause g c = cause_of_part Memory c.from_residual-in_err-push.result c.in_ok-file.ensures.looks.alone c.in_ok-file.ensures.cause (alone_here _) refl c.from_residual-in_err-push.ensures.1

pub returns-in_err-file-clause-looks : goal.returns-in_err-file-clause-looks
returns-in_err-file-clause-looks g c = c.in_err-file.ensures.looks

pub returns-in_err-file-clause-found : goal.returns-in_err-file-clause-found
returns-in_err-file-clause-found g c = λ k here astray. found_part c.in_err-file.field-0.0 c.from_residual.result (c.in_err-file.ensures.found k here) c.from_residual.ensures.1 astray

pub returns-in_err-push-clause-looks : goal.returns-in_err-push-clause-looks
returns-in_err-push-clause-looks g c = c.in_ok-file.ensures.looks

pub returns-in_err-push-clause-found : goal.returns-in_err-push-clause-found
returns-in_err-push-clause-found g c = λ k here astray. found_memory c.from_residual-in_err-push.result c.from_residual-in_err-push.ensures.1 astray

pub returns-clause-looks : goal.returns-clause-looks
returns-clause-looks g c = c.in_ok-file.ensures.looks

pub returns-clause-cause : goal.returns-clause-cause
returns-clause-cause g c = c.in_ok-file.ensures.cause

pub returns-clause-found : goal.returns-clause-found
returns-clause-found g c = λ k here astray. cc
