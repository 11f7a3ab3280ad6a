use Rattle.std.proofs.Common.{Err, Ok}
use Rattle.scav_table.specs.declared.errors.SweepError.TheVariants as sweep
use Rattle.scav_names.proofs.EndingNames.{names_end}
use Rattle.scav_names.proofs.mend.mend_names.Goals as goal

pub returns-in-Ok-clause-mends : goal.returns-in-Ok-clause-mends
returns-in-Ok-clause-mends g c = λ told can mended.
    let d = c.in-Ok.ensures.does told (record { scavengeable = can; pages = mended }) in
    names_end (g.D.Tape.tape c.args.disk.now) (g.D.Tape.tape c.mend.new.disk) (Ok c.in-Ok.adopted) c.in-Ok.ensures.alone.grown d.leaves d.keeps d.changes

pub returns-in-Err-DiskFault-clause-mends : goal.returns-in-Err-DiskFault-clause-mends
returns-in-Err-DiskFault-clause-mends g c = λ told can mended.
    let d = c.mend.ensures.does told (record { scavengeable = can; pages = mended }) in
    names_end (g.D.Tape.tape c.args.disk.now) (g.D.Tape.tape c.mend.new.disk) (Err sweep.DiskFault) c.mend.ensures.alone.grown tt d.keeps d.changes

pub returns-in-Err-Memory-clause-mends : goal.returns-in-Err-Memory-clause-mends
returns-in-Err-Memory-clause-mends g c = λ told can mended.
    let d = c.mend.ensures.does told (record { scavengeable = can; pages = mended }) in
    names_end (g.D.Tape.tape c.args.disk.now) (g.D.Tape.tape c.mend.new.disk) (Err sweep.Memory) c.mend.ensures.alone.grown tt d.keeps d.changes

pub returns-in-Err-Astray-clause-mends : goal.returns-in-Err-Astray-clause-mends
returns-in-Err-Astray-clause-mends g c = λ told can mended.
    let d = c.mend.ensures.does told (record { scavengeable = can; pages = mended }) in
    names_end (g.D.Tape.tape c.args.disk.now) (g.D.Tape.tape c.mend.new.disk) (Err sweep.Memory) c.mend.ensures.alone.grown tt d.keeps d.changes
