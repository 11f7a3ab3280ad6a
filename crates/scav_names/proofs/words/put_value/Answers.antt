use Rattle.std.proofs.Common.{refl}
use Rattle.disk_records.proofs.Growing.{alone_here}
use Rattle.label_check.proofs.Framing.{usable_value}
use Rattle.scav_pages.proofs.Causing.{cause_of_guarded}
use Rattle.scav_names.proofs.words.put_value.Goals as goal

pub returns-in_err-write_value-clause-cause : goal.returns-in_err-write_value-clause-cause
returns-in_err-write_value-clause-cause g c = cause_of_guarded c.in_err-write_value.field-0.0 c.from_residual.result (alone_here _) refl c.in_err-write_value.ensures.alone c.in_err-write_value.ensures.cause c.from_residual.ensures.1

pub returns-in_err-write_value-clause-frame : goal.returns-in_err-write_value-clause-frame
returns-in_err-write_value-clause-frame g c = usable_value c.in_err-write_value.ensures.guarded

pub returns-in_ok-write_value-clause-frame : goal.returns-in_ok-write_value-clause-frame
returns-in_ok-write_value-clause-frame g c = usable_value c.in_ok-write_value.ensures.guarded
