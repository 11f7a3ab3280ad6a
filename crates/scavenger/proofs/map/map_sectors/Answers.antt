use Rattle.std.proofs.Common.{◌≡◌, true, replicate, length, refl, rules}
use Rattle.disk_records.specs.Addresses.{pages_of}
use Rattle.disk_records.proofs.Growing.{alone_here}
use Rattle.scav_pages.specs.declared.errors.Stop.TheVariants.{Memory}
use Rattle.scav_pages.proofs.Causing.{cause_of_looked, cause_of_part}
use Rattle.scavenger.proofs.Finding.{no_places, some_pages}
use Rattle.scavenger.proofs.Mapping.{mapped, mapped_sized, mapped_within}
use Rattle.scavenger.proofs.map.map_sectors.Goals as goal

pub returns-clause-map : goal.returns-clause-map
returns-clause-map g c = λ told.
    let busy : c.in_ok-new.field-0 ≡ replicate (pages_of (g.D.Tape.tape c.args.disk.now).form) true = search rules in
    mapped (record { table = c.in_ok-new.field-0; places = _ }) c.sweep.new.visitor busy no_places c.in_ok-sweep.ensures.swept told

pub returns-clause-sized : goal.returns-clause-sized
returns-clause-sized g c =
    let size : length c.in_ok-new.field-0 ≡ pages_of (g.D.Tape.tape c.args.disk.now).form = search rules in
    mapped_sized (record { table = c.in_ok-new.field-0; places = _ }) c.sweep.new.visitor size c.in_ok-sweep.ensures.swept

pub returns-clause-within : goal.returns-clause-within
returns-clause-within g c = mapped_within (record { table = _; places = _ }) c.sweep.new.visitor (record { size = refl; each = λ n few. some_pages (g.D.Tape.tape c.args.disk.now).form _ (no_places n few) }) c.in_ok-sweep.ensures.swept

pub returns-in_err-new-clause-cause : goal.returns-in_err-new-clause-cause
returns-in_err-new-clause-cause g c = cause_of_part Memory c.from_residual.result (alone_here (g.D.Tape.tape c.args.disk.now)) refl (alone_here _) refl c.from_residual.ensures.1

pub returns-in_err-sweep-clause-cause : goal.returns-in_err-sweep-clause-cause
returns-in_err-sweep-clause-cause g c = cause_of_looked c.in_err-sweep.field-0.0 c.from_residual-in_err-sweep.result (alone_here _) refl c.in_err-sweep.ensures.looks.alone c.in_err-sweep.ensures.cause c.from_residual-in_err-sweep.ensures.1
