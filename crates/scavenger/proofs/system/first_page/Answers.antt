use Rattle.std.proofs.Common.{refl}
use Rattle.disk_records.proofs.Growing.{alone_here}
use Rattle.scav_pages.proofs.Causing.{cause_of_looked}
use Rattle.scavenger.proofs.system.first_page.Goals as goal

pub returns-in_err-look-clause-cause : goal.returns-in_err-look-clause-cause
returns-in_err-look-clause-cause g c = cause_of_looked c.in_err-look.field-0.0 c.from_residual.result (alone_here _) refl c.in_err-look.ensures.looks.alone c.in_err-look.ensures.cause c.from_residual.ensures.1
