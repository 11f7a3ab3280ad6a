use Rattle.std.proofs.Common.{refl}
use Rattle.disk_records.proofs.Growing.{alone_here}
use Rattle.scav_pages.proofs.Causing.{cause_of_looked}
use Rattle.scavenger.proofs.Finding.{found_places, found_within, no_places, some_pages}
use Rattle.scavenger.proofs.descriptor.find_pages.Goals as goal

pub returns-clause-places : goal.returns-clause-places
returns-clause-places g c = λ told. found_places (record { places = _ }) c.sweep.new.visitor no_places c.in_ok-sweep.ensures.swept told

pub returns-clause-within : goal.returns-clause-within
returns-clause-within g c = found_within (record { places = _ }) c.sweep.new.visitor (record { size = refl; each = λ n few. some_pages (g.D.Tape.tape c.args.disk.now).form _ (no_places n few) }) c.in_ok-sweep.ensures.swept

pub returns-in_err-sweep-clause-cause : goal.returns-in_err-sweep-clause-cause
returns-in_err-sweep-clause-cause g c = cause_of_looked c.in_err-sweep.field-0.0 c.from_residual.result (alone_here _) refl c.in_err-sweep.ensures.looks.alone c.in_err-sweep.ensures.cause c.from_residual.ensures.1
