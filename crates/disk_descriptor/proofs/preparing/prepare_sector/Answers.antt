use Rattle.std.proofs.Common.{Err, arith, refl, rules, subst, sym, ◌≡◌}
use Rattle.disk_records.proofs.Growing.{alone_twice}
use Rattle.disk_records.specs.Commands.{release_writes}
use Rattle.laws_format.specs.Preparing.{prepared_sector, prepared_writes}
use Rattle.pack_model.specs.sessions.Format.{sector_writes}
use Rattle.disk_descriptor.proofs.Writings.{writes_stop}
use Rattle.disk_descriptor.specs.Writing.{Writes}
use Rattle.disk_descriptor.specs.declared.errors.FormatError.TheVariants.{Memory}
use Rattle.disk_descriptor.proofs.preparing.prepare_sector.Goals as goal

pub returns-in_err-clear_sector-clause-writes : goal.returns-in_err-clear_sector-clause-writes
returns-in_err-clear_sector-clause-writes g c = λ told.
    let old = g.D.Tape.tape c.args.disk.now in
    let new = g.D.Tape.tape c.clear_sector.new.disk in
    let e = c.in_err-clear_sector.field-0.0 in
    let all = prepared_writes old.form c.args.number c.args.at in
    let failed : c.from_residual.result ≡ Err e = search rules in
    subst (λ r. Writes {T = Unit {0}} Memory all 2 old new r) (sym failed)
    (writes_stop Memory e (release_writes c.args.at) (sector_writes c.args.at (prepared_sector old.form c.args.number c.args.at)) all 1 2 refl (omega arith) (c.in_err-clear_sector.ensures.writes told))

pub returns-clause-alone : goal.returns-clause-alone
returns-clause-alone g c = alone_twice c.in_ok-clear_sector.ensures.alone c.write_sector.ensures.alone
