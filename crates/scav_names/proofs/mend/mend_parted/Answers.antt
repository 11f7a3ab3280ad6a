use Rattle.std.proofs.Common.{refl}
use Rattle.disk_records.specs.Tapes.{pack}
use Rattle.disk_records.proofs.Growing.{alone_here, alone_twice}
use Rattle.disk_records.proofs.Framing.{usable_twice}
use Rattle.scav_pages.proofs.Causing.{cause_of_part, cause_sooner}
use Rattle.scav_names.proofs.EnteringParts.{ready_same}
use Rattle.scav_names.proofs.Going.{does_last, does_part, so_far_does, so_far_here}
use Rattle.scav_names.proofs.mend.mend_parted.Goals as goal

pub returns-in_err-files-clause-does : goal.returns-in_err-files-clause-does
returns-in_err-files-clause-does g c = λ told may holds parted.
    does_part c.in_err-files.field-0.0 c.from_residual.result (so_far_here (g.D.Tape.tape c.args.disk.now)) c.in_err-files.ensures.alone.grown (c.in_err-files.ensures.does told may holds parted) c.from_residual.ensures.1

pub returns-in_err-files-clause-cause : goal.returns-in_err-files-clause-cause
returns-in_err-files-clause-cause g c = cause_of_part c.in_err-files.field-0.0 c.from_residual.result (alone_here _) refl c.in_err-files.ensures.alone c.in_err-files.ensures.cause c.from_residual.ensures.1

pub returns-in_err-files-clause-alone : goal.returns-in_err-files-clause-alone
returns-in_err-files-clause-alone g c = c.in_err-files.ensures.alone

pub returns-in_err-files-clause-frame : goal.returns-in_err-files-clause-frame
returns-in_err-files-clause-frame g c = c.in_err-files.ensures.frame

pub returns-clause-does : goal.returns-clause-does
returns-clause-does g c = λ told may holds parted.
    let a = g.D.Tape.tape c.args.disk.now in
    let one = c.in_ok-files.ensures in
    let ready = one.does told may holds parted in
    let then = c.name_files.ensures in
    does_last c.name_files.result (so_far_does (so_far_here a) one.alone.grown ready) then.alone.grown (then.does told (pack a) (ready_same c.as_slice.ensures c.as_slice-2.ensures c.as_slice-3.ensures ready.leaves)) (λ l. l)

pub returns-clause-cause : goal.returns-clause-cause
returns-clause-cause g c = cause_sooner (g.D.Tape.tape c.args.disk.now) (g.D.Tape.tape c.make_ready.new.disk) (g.D.Tape.tape c.name_files.new.disk) c.name_files.result c.in_ok-files.ensures.cause c.name_files.ensures.cause

pub returns-clause-alone : goal.returns-clause-alone
returns-clause-alone g c = alone_twice c.in_ok-files.ensures.alone c.name_files.ensures.alone

pub returns-clause-frame : goal.returns-clause-frame
returns-clause-frame g c = usable_twice c.in_ok-files.ensures.alone c.name_files.ensures.alone c.in_ok-files.ensures.frame c.name_files.ensures.frame
