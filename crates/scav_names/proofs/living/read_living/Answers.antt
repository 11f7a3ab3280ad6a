use Rattle.std.proofs.Common.{refl}
use Rattle.disk_records.proofs.Growing.{alone_here}
use Rattle.scav_pages.proofs.Causing.{cause_of_guarded}
use Rattle.scav_names.proofs.Erring.{found_guarded}
use Rattle.scav_names.proofs.living.read_living.Goals as goal

pub returns-in_err-read_page-clause-cause : goal.returns-in_err-read_page-clause-cause
returns-in_err-read_page-clause-cause g c = cause_of_guarded c.in_err-read_page.field-0.0 c.from_residual.result (alone_here _) refl c.in_err-read_page.ensures.looks.alone c.in_err-read_page.ensures.cause c.from_residual.ensures.1

pub returns-in_err-read_page-clause-looks : goal.returns-in_err-read_page-clause-looks
returns-in_err-read_page-clause-looks g c = c.in_err-read_page.ensures.looks

pub returns-in_err-read_page-clause-found : goal.returns-in_err-read_page-clause-found
returns-in_err-read_page-clause-found g c = λ k here astray. found_guarded c.in_err-read_page.field-0.0 c.from_residual.result (c.in_err-read_page.ensures.guarded k) here c.from_residual.ensures.1 astray

pub returns-clause-looks : goal.returns-clause-looks
returns-clause-looks g c = c.in_ok-read_page.ensures.looks

pub returns-clause-cause : goal.returns-clause-cause
returns-clause-cause g c = c.in_ok-read_page.ensures.cause

pub returns-clause-found : goal.returns-clause-found
returns-clause-found g c = λ k here astray. cc
