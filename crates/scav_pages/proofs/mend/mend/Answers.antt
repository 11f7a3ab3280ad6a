use Rattle.std.proofs.Common.{refl, ◌∙◌}
use Rattle.disk_records.proofs.Framing.{usable_twice}
use Rattle.disk_records.proofs.Growing.{alone_here, alone_twice}
use Rattle.scav_pages.proofs.Causing.{cause_of_part}
use Rattle.scav_pages.proofs.Doing.{does_ok, does_stop_part, going_does, going_here}
use Rattle.scav_pages.proofs.Mending.{are_mended, may_move, ready_midway}
use Rattle.scav_pages.proofs.mend.mend.Goals as goal

-- ---- one of the passes stopped
pub returns-in_err-unused-clause-does : goal.returns-in_err-unused-clause-does
returns-in_err-unused-clause-does g c = λ told ready.
    let a = g.D.Tape.tape c.args.disk.now in
    let b = g.D.Tape.tape c.release_available.new.disk in
    does_stop_part c.in_err-unused.field-0.0 c.from_residual.result (going_here a) c.in_err-unused.ensures.alone.grown (c.in_err-unused.ensures.does told) c.from_residual.ensures.1

pub returns-in_err-unused-clause-cause : goal.returns-in_err-unused-clause-cause
returns-in_err-unused-clause-cause g c = cause_of_part c.in_err-unused.field-0.0 c.from_residual.result (alone_here _) refl c.in_err-unused.ensures.alone c.in_err-unused.ensures.cause c.from_residual.ensures.1

pub returns-in_err-mend_root-clause-does : goal.returns-in_err-mend_root-clause-does
returns-in_err-mend_root-clause-does g c = λ told ready.
    let a = g.D.Tape.tape c.args.disk.now in
    let b = g.D.Tape.tape c.release_available.new.disk in
    let d = g.D.Tape.tape c.mend_root.new.disk in
    let one = c.in_ok-unused.ensures in
    let first = one.does told in
    let x = going_does (going_here a) one.alone.grown first in
    does_stop_part c.in_err-mend_root.field-0.0 c.from_residual-in_err-mend_root.result x c.in_err-mend_root.ensures.alone.grown (c.in_err-mend_root.ensures.does told (may_move a b c.in_ok-unused.unused x ready first.leaves)) c.from_residual-in_err-mend_root.ensures.1

pub returns-in_err-mend_root-clause-cause : goal.returns-in_err-mend_root-clause-cause
returns-in_err-mend_root-clause-cause g c = cause_of_part c.in_err-mend_root.field-0.0 c.from_residual-in_err-mend_root.result c.in_ok-unused.ensures.alone c.in_ok-unused.ensures.cause c.in_err-mend_root.ensures.alone c.in_err-mend_root.ensures.cause c.from_residual-in_err-mend_root.ensures.1

pub returns-in_err-mend_root-clause-alone : goal.returns-in_err-mend_root-clause-alone
returns-in_err-mend_root-clause-alone g c = alone_twice c.in_ok-unused.ensures.alone c.in_err-mend_root.ensures.alone

pub returns-in_err-mend_root-clause-frame : goal.returns-in_err-mend_root-clause-frame
returns-in_err-mend_root-clause-frame g c = usable_twice c.in_ok-unused.ensures.alone c.in_err-mend_root.ensures.alone c.in_ok-unused.ensures.frame c.in_err-mend_root.ensures.frame

pub returns-in_err-mend_ends-clause-does : goal.returns-in_err-mend_ends-clause-does
returns-in_err-mend_ends-clause-does g c = λ told ready.
    let a = g.D.Tape.tape c.args.disk.now in
    let b = g.D.Tape.tape c.release_available.new.disk in
    let d = g.D.Tape.tape c.mend_root.new.disk in
    let e = g.D.Tape.tape c.mend_ends.new.disk in
    let one = c.in_ok-unused.ensures in
    let two = c.in_ok-mend_root.ensures in
    let first = one.does told in
    let x = going_does (going_here a) one.alone.grown first in
    let second = two.does told (may_move a b c.in_ok-unused.unused x ready first.leaves) in
    let y = going_does x two.alone.grown second in
    does_stop_part c.in_err-mend_ends.field-0.0 c.from_residual-in_err-mend_ends.result y c.in_err-mend_ends.ensures.alone.grown (c.in_err-mend_ends.ensures.does told (ready_midway a d y ready) second.leaves) c.from_residual-in_err-mend_ends.ensures.1

pub returns-in_err-mend_ends-clause-cause : goal.returns-in_err-mend_ends-clause-cause
returns-in_err-mend_ends-clause-cause g c = cause_of_part c.in_err-mend_ends.field-0.0 c.from_residual-in_err-mend_ends.result (alone_twice c.in_ok-unused.ensures.alone c.in_ok-mend_root.ensures.alone) (c.in_ok-mend_root.ensures.cause ∙ c.in_ok-unused.ensures.cause) c.in_err-mend_ends.ensures.alone c.in_err-mend_ends.ensures.cause c.from_residual-in_err-mend_ends.ensures.1

pub returns-in_err-mend_ends-clause-alone : goal.returns-in_err-mend_ends-clause-alone
returns-in_err-mend_ends-clause-alone g c = alone_twice (alone_twice c.in_ok-unused.ensures.alone c.in_ok-mend_root.ensures.alone) c.in_err-mend_ends.ensures.alone

pub returns-in_err-mend_ends-clause-frame : goal.returns-in_err-mend_ends-clause-frame
returns-in_err-mend_ends-clause-frame g c = usable_twice (alone_twice c.in_ok-unused.ensures.alone c.in_ok-mend_root.ensures.alone) c.in_err-mend_ends.ensures.alone (usable_twice c.in_ok-unused.ensures.alone c.in_ok-mend_root.ensures.alone c.in_ok-unused.ensures.frame c.in_ok-mend_root.ensures.frame) c.in_err-mend_ends.ensures.frame

pub returns-in_err-mend_links-clause-does : goal.returns-in_err-mend_links-clause-does
returns-in_err-mend_links-clause-does g c = λ told ready.
    let a = g.D.Tape.tape c.args.disk.now in
    let b = g.D.Tape.tape c.release_available.new.disk in
    let d = g.D.Tape.tape c.mend_root.new.disk in
    let e = g.D.Tape.tape c.mend_links.new.disk in
    let one = c.in_ok-unused.ensures in
    let two = c.in_ok-mend_root.ensures in
    let three = c.in_ok-mend_ends.ensures in
    let first = one.does told in
    let x = going_does (going_here a) one.alone.grown first in
    let second = two.does told (may_move a b c.in_ok-unused.unused x ready first.leaves) in
    let y = going_does x two.alone.grown second in
    let third = three.does told (ready_midway a d y ready) second.leaves in
    does_stop_part c.in_err-mend_links.field-0.0 c.from_residual-in_err-mend_links.result (going_does y three.alone.grown third) c.in_err-mend_links.ensures.alone.grown (c.in_err-mend_links.ensures.does told third.leaves) c.from_residual-in_err-mend_links.ensures.1

pub returns-in_err-mend_links-clause-cause : goal.returns-in_err-mend_links-clause-cause
returns-in_err-mend_links-clause-cause g c = cause_of_part c.in_err-mend_links.field-0.0 c.from_residual-in_err-mend_links.result (alone_twice (alone_twice c.in_ok-unused.ensures.alone c.in_ok-mend_root.ensures.alone) c.in_ok-mend_ends.ensures.alone) (c.in_ok-mend_ends.ensures.cause ∙ c.in_ok-mend_root.ensures.cause ∙ c.in_ok-unused.ensures.cause) c.in_err-mend_links.ensures.alone c.in_err-mend_links.ensures.cause c.from_residual-in_err-mend_links.ensures.1

pub returns-in_err-mend_links-clause-alone : goal.returns-in_err-mend_links-clause-alone
returns-in_err-mend_links-clause-alone g c = alone_twice (alone_twice (alone_twice c.in_ok-unused.ensures.alone c.in_ok-mend_root.ensures.alone) c.in_ok-mend_ends.ensures.alone) c.in_err-mend_links.ensures.alone

pub returns-in_err-mend_links-clause-frame : goal.returns-in_err-mend_links-clause-frame
returns-in_err-mend_links-clause-frame g c = usable_twice (alone_twice (alone_twice c.in_ok-unused.ensures.alone c.in_ok-mend_root.ensures.alone) c.in_ok-mend_ends.ensures.alone) c.in_err-mend_links.ensures.alone (usable_twice (alone_twice c.in_ok-unused.ensures.alone c.in_ok-mend_root.ensures.alone) c.in_ok-mend_ends.ensures.alone (usable_twice c.in_ok-unused.ensures.alone c.in_ok-mend_root.ensures.alone c.in_ok-unused.ensures.frame c.in_ok-mend_root.ensures.frame) c.in_ok-mend_ends.ensures.frame) c.in_err-mend_links.ensures.frame

-- ---- all are done
pub returns-clause-does : goal.returns-clause-does
returns-clause-does g c = λ told ready.
    let a = g.D.Tape.tape c.args.disk.now in
    let b = g.D.Tape.tape c.release_available.new.disk in
    let d = g.D.Tape.tape c.mend_root.new.disk in
    let e = g.D.Tape.tape c.mend_links.new.disk in
    let one = c.in_ok-unused.ensures in
    let two = c.in_ok-mend_root.ensures in
    let three = c.in_ok-mend_ends.ensures in
    let four = c.in_ok-mend_links.ensures in
    let first = one.does told in
    let x = going_does (going_here a) one.alone.grown first in
    let second = two.does told (may_move a b c.in_ok-unused.unused x ready first.leaves) in
    let y = going_does x two.alone.grown second in
    let third = three.does told (ready_midway a d y ready) second.leaves in
    let fourth = four.does told third.leaves in
    let z = going_does (going_does y three.alone.grown third) four.alone.grown fourth in
    does_ok tt z (are_mended a b e c.in_ok-unused.unused z first.leaves fourth.leaves)

pub returns-clause-alone : goal.returns-clause-alone
returns-clause-alone g c = alone_twice (alone_twice (alone_twice c.in_ok-unused.ensures.alone c.in_ok-mend_root.ensures.alone) c.in_ok-mend_ends.ensures.alone) c.in_ok-mend_links.ensures.alone

pub returns-clause-frame : goal.returns-clause-frame
returns-clause-frame g c = usable_twice (alone_twice (alone_twice c.in_ok-unused.ensures.alone c.in_ok-mend_root.ensures.alone) c.in_ok-mend_ends.ensures.alone) c.in_ok-mend_links.ensures.alone (usable_twice (alone_twice c.in_ok-unused.ensures.alone c.in_ok-mend_root.ensures.alone) c.in_ok-mend_ends.ensures.alone (usable_twice c.in_ok-unused.ensures.alone c.in_ok-mend_root.ensures.alone c.in_ok-unused.ensures.frame c.in_ok-mend_root.ensures.frame) c.in_ok-mend_ends.ensures.frame) c.in_ok-mend_links.ensures.frame
