use Rattle.std.proofs.Common.{◌<◌, arith, length, refl, ◌∙◌}
use Rattle.disk_records.specs.Tapes.{pack}
use Rattle.disk_records.proofs.Framing.{usable_twice}
use Rattle.disk_records.proofs.Growing.{alone_here, alone_twice, length-pack}
use Rattle.scav_pages.proofs.Causing.{cause_of_part}
use Rattle.scav_pages.proofs.Doing.{does_ok, does_stop_part, going_does, going_here}
use Rattle.scav_pages.proofs.Mending.{all_released, root_within}
use Rattle.scav_pages.proofs.mend.release_available.Goals as goal

-- ---- one of the passes stopped
pub returns-in_err-copies-clause-does : goal.returns-in_err-copies-clause-does
returns-in_err-copies-clause-does g c = λ told.
    let a = g.D.Tape.tape c.args.disk.now in
    let b = g.D.Tape.tape c.release_copies.new.disk in
    does_stop_part c.in_err-copies.field-0.0 c.from_residual.result (going_here a) c.in_err-copies.ensures.alone.grown (c.in_err-copies.ensures.does told) c.from_residual.ensures.1

pub returns-in_err-copies-clause-cause : goal.returns-in_err-copies-clause-cause
returns-in_err-copies-clause-cause g c = cause_of_part c.in_err-copies.field-0.0 c.from_residual.result (alone_here _) refl c.in_err-copies.ensures.alone c.in_err-copies.ensures.cause c.from_residual.ensures.1

pub returns-in_err-strays-clause-does : goal.returns-in_err-strays-clause-does
returns-in_err-strays-clause-does g c = λ told.
    let a = g.D.Tape.tape c.args.disk.now in
    let d = g.D.Tape.tape c.release_strays.new.disk in
    let one = c.in_ok-copies.ensures in
    let first = one.does told in
    let x = going_does (going_here a) one.alone.grown first in
    does_stop_part c.in_err-strays.field-0.0 c.from_residual-in_err-strays.result x c.in_err-strays.ensures.alone.grown (c.in_err-strays.ensures.does told first.leaves.once) c.from_residual-in_err-strays.ensures.1

pub returns-in_err-strays-clause-cause : goal.returns-in_err-strays-clause-cause
returns-in_err-strays-clause-cause g c = cause_of_part c.in_err-strays.field-0.0 c.from_residual-in_err-strays.result c.in_ok-copies.ensures.alone c.in_ok-copies.ensures.cause c.in_err-strays.ensures.alone c.in_err-strays.ensures.cause c.from_residual-in_err-strays.ensures.1

pub returns-in_err-strays-clause-alone : goal.returns-in_err-strays-clause-alone
returns-in_err-strays-clause-alone g c = alone_twice c.in_ok-copies.ensures.alone c.in_err-strays.ensures.alone

pub returns-in_err-strays-clause-frame : goal.returns-in_err-strays-clause-frame
returns-in_err-strays-clause-frame g c = usable_twice c.in_ok-copies.ensures.alone c.in_err-strays.ensures.alone c.in_ok-copies.ensures.frame c.in_err-strays.ensures.frame

pub returns-in_err-cut_directories-clause-does : goal.returns-in_err-cut_directories-clause-does
returns-in_err-cut_directories-clause-does g c = λ told.
    let a = g.D.Tape.tape c.args.disk.now in
    let d = g.D.Tape.tape c.cut_directories.new.disk in
    let one = c.in_ok-copies.ensures in
    let two = c.in_ok-strays.ensures in
    let first = one.does told in
    let second = two.does told first.leaves.once in
    let x = going_does (going_does (going_here a) one.alone.grown first) two.alone.grown second in
    does_stop_part c.in_err-cut_directories.field-0.0 c.from_residual-in_err-cut_directories.result x c.in_err-cut_directories.ensures.alone.grown (c.in_err-cut_directories.ensures.does told second.leaves.cleared) c.from_residual-in_err-cut_directories.ensures.1

pub returns-in_err-cut_directories-clause-cause : goal.returns-in_err-cut_directories-clause-cause
returns-in_err-cut_directories-clause-cause g c = cause_of_part c.in_err-cut_directories.field-0.0 c.from_residual-in_err-cut_directories.result (alone_twice c.in_ok-copies.ensures.alone c.in_ok-strays.ensures.alone) (c.in_ok-strays.ensures.cause ∙ c.in_ok-copies.ensures.cause) c.in_err-cut_directories.ensures.alone c.in_err-cut_directories.ensures.cause c.from_residual-in_err-cut_directories.ensures.1

pub returns-in_err-cut_directories-clause-alone : goal.returns-in_err-cut_directories-clause-alone
returns-in_err-cut_directories-clause-alone g c = alone_twice (alone_twice c.in_ok-copies.ensures.alone c.in_ok-strays.ensures.alone) c.in_err-cut_directories.ensures.alone

pub returns-in_err-cut_directories-clause-frame : goal.returns-in_err-cut_directories-clause-frame
returns-in_err-cut_directories-clause-frame g c = usable_twice (alone_twice c.in_ok-copies.ensures.alone c.in_ok-strays.ensures.alone) c.in_err-cut_directories.ensures.alone (usable_twice c.in_ok-copies.ensures.alone c.in_ok-strays.ensures.alone c.in_ok-copies.ensures.frame c.in_ok-strays.ensures.frame) c.in_err-cut_directories.ensures.frame

pub returns-in_err-unused-clause-does : goal.returns-in_err-unused-clause-does
returns-in_err-unused-clause-does g c = λ told.
    let a = g.D.Tape.tape c.args.disk.now in
    let d = g.D.Tape.tape c.release_unused.new.disk in
    let one = c.in_ok-copies.ensures in
    let two = c.in_ok-strays.ensures in
    let three = c.in_ok-cut_directories.ensures in
    let first = one.does told in
    let second = two.does told first.leaves.once in
    let third = three.does told second.leaves.cleared in
    let x = going_does (going_does (going_does (going_here a) one.alone.grown first) two.alone.grown second) three.alone.grown third in
    does_stop_part c.in_err-unused.field-0.0 c.from_residual-in_err-unused.result x c.in_err-unused.ensures.alone.grown (c.in_err-unused.ensures.does told third.leaves.ended) c.from_residual-in_err-unused.ensures.1

pub returns-in_err-unused-clause-cause : goal.returns-in_err-unused-clause-cause
returns-in_err-unused-clause-cause g c = cause_of_part c.in_err-unused.field-0.0 c.from_residual-in_err-unused.result (alone_twice (alone_twice c.in_ok-copies.ensures.alone c.in_ok-strays.ensures.alone) c.in_ok-cut_directories.ensures.alone) (c.in_ok-cut_directories.ensures.cause ∙ c.in_ok-strays.ensures.cause ∙ c.in_ok-copies.ensures.cause) c.in_err-unused.ensures.alone c.in_err-unused.ensures.cause c.from_residual-in_err-unused.ensures.1

pub returns-in_err-unused-clause-alone : goal.returns-in_err-unused-clause-alone
returns-in_err-unused-clause-alone g c = alone_twice (alone_twice (alone_twice c.in_ok-copies.ensures.alone c.in_ok-strays.ensures.alone) c.in_ok-cut_directories.ensures.alone) c.in_err-unused.ensures.alone

pub returns-in_err-unused-clause-frame : goal.returns-in_err-unused-clause-frame
returns-in_err-unused-clause-frame g c = usable_twice (alone_twice (alone_twice c.in_ok-copies.ensures.alone c.in_ok-strays.ensures.alone) c.in_ok-cut_directories.ensures.alone) c.in_err-unused.ensures.alone (usable_twice (alone_twice c.in_ok-copies.ensures.alone c.in_ok-strays.ensures.alone) c.in_ok-cut_directories.ensures.alone (usable_twice c.in_ok-copies.ensures.alone c.in_ok-strays.ensures.alone c.in_ok-copies.ensures.frame c.in_ok-strays.ensures.frame) c.in_ok-cut_directories.ensures.frame) c.in_err-unused.ensures.frame

-- ---- all are done
pub returns-clause-does : goal.returns-clause-does
returns-clause-does g c = λ told.
    let a = g.D.Tape.tape c.args.disk.now in
    let e = g.D.Tape.tape c.release_unused.new.disk in
    let one = c.in_ok-copies.ensures in
    let two = c.in_ok-strays.ensures in
    let three = c.in_ok-cut_directories.ensures in
    let four = c.in_ok-unused.ensures in
    let first = one.does told in
    let second = two.does told first.leaves.once in
    let third = three.does told second.leaves.cleared in
    let fourth = four.does told third.leaves.ended in
    let x = going_does (going_does (going_does (going_does (going_here a) one.alone.grown first) two.alone.grown second) three.alone.grown third) four.alone.grown fourth in
    let size = length-pack e in
    let sized = g.met.D.Disk.sized c.release_unused.new.disk told in
    let most = e.form.most_pages in
    let low : length (pack e).sectors < 4294967296 = omega arith in
    does_ok _ x
    (all_released (pack a) (pack (g.D.Tape.tape c.release_copies.new.disk)) (pack (g.D.Tape.tape c.release_strays.new.disk)) (pack (g.D.Tape.tape c.cut_directories.new.disk)) (pack e)
    c.in_ok-copies.copies c.in_ok-strays.strays _ _ c.in_ok-unused.unused first.leaves second.leaves third.leaves fourth.leaves low c.saturating_add.ensures c.saturating_add-2.ensures)

pub returns-clause-place : goal.returns-clause-place
returns-clause-place g c =
    let before = alone_twice (alone_twice c.in_ok-copies.ensures.alone c.in_ok-strays.ensures.alone) c.in_ok-cut_directories.ensures.alone in
    root_within before.grown c.in_ok-unused.unused.root c.in_ok-unused.ensures.place

pub returns-clause-alone : goal.returns-clause-alone
returns-clause-alone g c = alone_twice (alone_twice (alone_twice c.in_ok-copies.ensures.alone c.in_ok-strays.ensures.alone) c.in_ok-cut_directories.ensures.alone) c.in_ok-unused.ensures.alone

pub returns-clause-frame : goal.returns-clause-frame
returns-clause-frame g c = usable_twice (alone_twice (alone_twice c.in_ok-copies.ensures.alone c.in_ok-strays.ensures.alone) c.in_ok-cut_directories.ensures.alone) c.in_ok-unused.ensures.alone (usable_twice (alone_twice c.in_ok-copies.ensures.alone c.in_ok-strays.ensures.alone) c.in_ok-cut_directories.ensures.alone (usable_twice c.in_ok-copies.ensures.alone c.in_ok-strays.ensures.alone c.in_ok-copies.ensures.frame c.in_ok-strays.ensures.frame) c.in_ok-cut_directories.ensures.frame) c.in_ok-unused.ensures.frame
