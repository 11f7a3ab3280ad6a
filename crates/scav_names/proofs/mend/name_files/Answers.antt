use Rattle.std.proofs.Common.{refl, ◌∙◌}
use Rattle.disk_records.proofs.Growing.{alone_here, alone_twice}
use Rattle.disk_records.proofs.Framing.{usable_twice}
use Rattle.scav_pages.proofs.Causing.{cause_of_part}
use Rattle.scav_names.proofs.EnteringParts.{ready_addressed, ready_mended}
use Rattle.scav_names.proofs.Going.{does_ok, does_part, so_far_does, so_far_here}
use Rattle.scav_names.proofs.mend.name_files.Goals as goal

pub returns-in_err-enter_all-clause-does : goal.returns-in_err-enter_all-clause-does
returns-in_err-enter_all-clause-does g c = λ told p ready.
    does_part c.in_err-enter_all.field-0.0 c.from_residual.result (so_far_here (g.D.Tape.tape c.args.disk.now)) c.in_err-enter_all.ensures.alone.grown (c.in_err-enter_all.ensures.does told ready.may) c.from_residual.ensures.1

pub returns-in_err-enter_all-clause-cause : goal.returns-in_err-enter_all-clause-cause
returns-in_err-enter_all-clause-cause g c = cause_of_part c.in_err-enter_all.field-0.0 c.from_residual.result (alone_here _) refl c.in_err-enter_all.ensures.alone c.in_err-enter_all.ensures.cause c.from_residual.ensures.1

pub returns-in_err-enter_all-clause-alone : goal.returns-in_err-enter_all-clause-alone
returns-in_err-enter_all-clause-alone g c = c.in_err-enter_all.ensures.alone

pub returns-in_err-enter_all-clause-frame : goal.returns-in_err-enter_all-clause-frame
returns-in_err-enter_all-clause-frame g c = c.in_err-enter_all.ensures.frame

pub returns-in_err-mend_addresses-clause-does : goal.returns-in_err-mend_addresses-clause-does
returns-in_err-mend_addresses-clause-does g c = λ told p ready.
    let three = c.in_ok-enter_all.ensures in
    let third = three.does told ready.may in
    does_part c.in_err-mend_addresses.field-0.0 c.from_residual-in_err-mend_addresses.result (so_far_does (so_far_here (g.D.Tape.tape c.args.disk.now)) three.alone.grown third) c.in_err-mend_addresses.ensures.alone.grown
    (c.in_err-mend_addresses.ensures.does told (ready_addressed ready third.leaves)) c.from_residual-in_err-mend_addresses.ensures.1

pub returns-in_err-mend_addresses-clause-cause : goal.returns-in_err-mend_addresses-clause-cause
returns-in_err-mend_addresses-clause-cause g c = cause_of_part c.in_err-mend_addresses.field-0.0 c.from_residual-in_err-mend_addresses.result c.in_ok-enter_all.ensures.alone c.in_ok-enter_all.ensures.cause c.in_err-mend_addresses.ensures.alone c.in_err-mend_addresses.ensures.cause c.from_residual-in_err-mend_addresses.ensures.1

pub returns-in_err-mend_addresses-clause-alone : goal.returns-in_err-mend_addresses-clause-alone
returns-in_err-mend_addresses-clause-alone g c = alone_twice c.in_ok-enter_all.ensures.alone c.in_err-mend_addresses.ensures.alone

pub returns-in_err-mend_addresses-clause-frame : goal.returns-in_err-mend_addresses-clause-frame
returns-in_err-mend_addresses-clause-frame g c = usable_twice c.in_ok-enter_all.ensures.alone c.in_err-mend_addresses.ensures.alone c.in_ok-enter_all.ensures.frame c.in_err-mend_addresses.ensures.frame

pub returns-clause-does : goal.returns-clause-does
returns-clause-does g c = λ told p ready.
    let three = c.in_ok-enter_all.ensures in
    let third = three.does told ready.may in
    let four = c.in_ok-mend_addresses.ensures in
    let fourth = four.does told (ready_addressed ready third.leaves) in
    does_ok c.count_adopted.result (so_far_does (so_far_does (so_far_here (g.D.Tape.tape c.args.disk.now)) three.alone.grown third) four.alone.grown fourth)
    (ready_mended c.count_adopted.result ready fourth.leaves c.count_adopted.ensures)

pub returns-clause-cause : goal.returns-clause-cause
returns-clause-cause g c = c.in_ok-mend_addresses.ensures.cause ∙ c.in_ok-enter_all.ensures.cause

pub returns-clause-alone : goal.returns-clause-alone
returns-clause-alone g c = alone_twice c.in_ok-enter_all.ensures.alone c.in_ok-mend_addresses.ensures.alone

pub returns-clause-frame : goal.returns-clause-frame
returns-clause-frame g c = usable_twice c.in_ok-enter_all.ensures.alone c.in_ok-mend_addresses.ensures.alone c.in_ok-enter_all.ensures.frame c.in_ok-mend_addresses.ensures.frame
