use Rattle.std.proofs.Common.{◌<◌, ◌≤◌, sym, subst, refl}
use Rattle.std.proofs.lemmas.List.Elements.{All-nil}
use Rattle.disk_records.specs.Addresses.{pages_of}
use Rattle.disk_records.specs.Tapes.{pack}
use Rattle.disk_records.proofs.Growing.{alone_here}
use Rattle.scav_pages.proofs.Causing.{cause_of_part}
use Rattle.scav_names.specs.Catalogues.{AreSectors}
use Rattle.scav_names.proofs.Erring.{found_part}
use Rattle.scav_names.proofs.read.read_names.Goals as goal

pub returns-in_err-read_rows-clause-cause : goal.returns-in_err-read_rows-clause-cause
returns-in_err-read_rows-clause-cause g c = cause_of_part c.in_err-read_rows.field-0.0 c.from_residual.result (alone_here _) refl c.in_err-read_rows.ensures.alone c.in_err-read_rows.ensures.cause c.from_residual.ensures.1

pub returns-in_err-read_rows-clause-alone : goal.returns-in_err-read_rows-clause-alone
returns-in_err-read_rows-clause-alone g c = c.in_err-read_rows.ensures.alone

pub returns-in_err-read_rows-clause-silent : goal.returns-in_err-read_rows-clause-silent
returns-in_err-read_rows-clause-silent g c = c.in_err-read_rows.ensures.silent

pub returns-clause-names : goal.returns-clause-names
returns-clause-names g c = λ k.
    let a = g.D.Tape.tape c.args.disk.now in
    c.in_ok-read_rows.ensures.names k (c.new-reading.ensures.start (pack a) (g.met.D.Disk.formed c.args.disk.now k))

pub returns-clause-sectors : goal.returns-clause-sectors
returns-clause-sectors g c =
    let a = g.D.Tape.tape c.args.disk.now in
    c.in_ok-read_rows.ensures.sectors (subst (AreSectors a.form) (sym c.new-reading.ensures.none) (All-nil (λ at. (1 ≤ at) × (at < pages_of a.form))))

pub returns-clause-cause : goal.returns-clause-cause
returns-clause-cause g c = c.in_ok-read_rows.ensures.cause

pub returns-clause-alone : goal.returns-clause-alone
returns-clause-alone g c = c.in_ok-read_rows.ensures.alone

pub returns-clause-silent : goal.returns-clause-silent
returns-clause-silent g c = c.in_ok-read_rows.ensures.silent

pub returns-in_err-read_rows-clause-found : goal.returns-in_err-read_rows-clause-found
returns-in_err-read_rows-clause-found g c = λ k astray. found_part c.in_err-read_rows.field-0.0 c.from_residual.result (c.in_err-read_rows.ensures.found k) c.from_residual.ensures.1 astray

pub returns-clause-found : goal.returns-clause-found
returns-clause-found g c = λ k astray. cc
