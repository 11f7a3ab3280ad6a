use Rattle.std.proofs.Common.{length, ◌+◌, ◌<◌, ◌∙◌, arith, refl}
use Rattle.disk_records.specs.Tapes.{pack}
use Rattle.disk_records.proofs.Growing.{alone_here, length-pack}
use Rattle.scav_pages.specs.declared.errors.Stop.TheVariants.{Memory}
use Rattle.scav_pages.proofs.Causing.{cause_of_part}
use Rattle.scav_names.proofs.EnteringParts.{are_ready}
use Rattle.scav_names.proofs.Going.{does_ok, does_part, does_stop, so_far_does, so_far_here}
use Rattle.scav_names.proofs.mend.make_ready.Goals as goal

pub returns-in_err-free_unkept-clause-does : goal.returns-in_err-free_unkept-clause-does
returns-in_err-free_unkept-clause-does g c = λ told may holds parted.
    does_part c.in_err-free_unkept.field-0.0 c.from_residual.result (so_far_here (g.D.Tape.tape c.args.disk.now)) c.in_err-free_unkept.ensures.alone.grown (c.in_err-free_unkept.ensures.does told may (c.as_slice.ensures ∙ parted.unkept)) c.from_residual.ensures.1

pub returns-in_err-free_unkept-clause-cause : goal.returns-in_err-free_unkept-clause-cause
returns-in_err-free_unkept-clause-cause g c = cause_of_part c.in_err-free_unkept.field-0.0 c.from_residual.result (alone_here _) refl c.in_err-free_unkept.ensures.alone c.in_err-free_unkept.ensures.cause c.from_residual.ensures.1

pub returns-in_err-free_unkept-clause-alone : goal.returns-in_err-free_unkept-clause-alone
returns-in_err-free_unkept-clause-alone g c = c.in_err-free_unkept.ensures.alone

pub returns-in_err-free_unkept-clause-frame : goal.returns-in_err-free_unkept-clause-frame
returns-in_err-free_unkept-clause-frame g c = c.in_err-free_unkept.ensures.frame

pub returns-in_err-root_rooms-clause-does : goal.returns-in_err-root_rooms-clause-does
returns-in_err-root_rooms-clause-does g c = λ told may holds parted.
    let two = c.in_ok-free_unkept.ensures in
    let second = two.does told may (c.as_slice.ensures ∙ parted.unkept) in
    does_stop Memory c.from_residual-in_err-root_rooms.result (so_far_does (so_far_here (g.D.Tape.tape c.args.disk.now)) two.alone.grown second) (λ astray. cc) c.from_residual-in_err-root_rooms.ensures.1

pub returns-in_err-root_rooms-clause-cause : goal.returns-in_err-root_rooms-clause-cause
returns-in_err-root_rooms-clause-cause g c = cause_of_part Memory c.from_residual-in_err-root_rooms.result c.in_ok-free_unkept.ensures.alone c.in_ok-free_unkept.ensures.cause (alone_here _) refl c.from_residual-in_err-root_rooms.ensures.1

pub returns-in_err-root_rooms-clause-alone : goal.returns-in_err-root_rooms-clause-alone
returns-in_err-root_rooms-clause-alone g c = c.in_ok-free_unkept.ensures.alone

pub returns-in_err-root_rooms-clause-frame : goal.returns-in_err-root_rooms-clause-frame
returns-in_err-root_rooms-clause-frame g c = c.in_ok-free_unkept.ensures.frame

pub returns-in_err-files-clause-does : goal.returns-in_err-files-clause-does
returns-in_err-files-clause-does g c = λ told may holds parted.
    let two = c.in_ok-free_unkept.ensures in
    let second = two.does told may (c.as_slice.ensures ∙ parted.unkept) in
    does_stop Memory c.from_residual-in_err-files.result (so_far_does (so_far_here (g.D.Tape.tape c.args.disk.now)) two.alone.grown second) (λ astray. cc) c.from_residual-in_err-files.ensures.1

pub returns-in_err-files-clause-cause : goal.returns-in_err-files-clause-cause
returns-in_err-files-clause-cause g c = cause_of_part Memory c.from_residual-in_err-files.result c.in_ok-free_unkept.ensures.alone c.in_ok-free_unkept.ensures.cause (alone_here _) refl c.from_residual-in_err-files.ensures.1

pub returns-in_err-files-clause-alone : goal.returns-in_err-files-clause-alone
returns-in_err-files-clause-alone g c = c.in_ok-free_unkept.ensures.alone

pub returns-in_err-files-clause-frame : goal.returns-in_err-files-clause-frame
returns-in_err-files-clause-frame g c = c.in_ok-free_unkept.ensures.frame

pub returns-clause-does : goal.returns-clause-does
returns-clause-does g c = λ told may holds parted.
    let a = g.D.Tape.tape c.args.disk.now in
    let two = c.in_ok-free_unkept.ensures in
    let second = two.does told may (c.as_slice.ensures ∙ parted.unkept) in
    let rooms = c.in_ok-root_rooms.ensures.rooms (pack a) holds parted in
    let living = c.in_ok-root_rooms.ensures.living in
    let files = c.in_ok-files.ensures.files (pack a) (c.as_slice-2.ensures ∙ living ∙ holds.living) parted in
    let size = length-pack a in
    let sized = g.met.D.Disk.sized c.args.disk.now told in
    let most = a.form.most_pages in
    let low : length (pack a).sectors + 2 < 4294967296 = omega arith in
    does_ok c.in_ok-files.files (so_far_does (so_far_here a) two.alone.grown second)
    (are_ready c.root_rooms.new.names c.lacking.new.parted.kept c.in_ok-files.files may holds second.leaves rooms living c.in_ok-root_rooms.ensures.pages (c.in_ok-files.ensures.kept ∙ parted.kept) files low)

pub returns-clause-cause : goal.returns-clause-cause
returns-clause-cause g c = c.in_ok-free_unkept.ensures.cause

pub returns-clause-alone : goal.returns-clause-alone
returns-clause-alone g c = c.in_ok-free_unkept.ensures.alone

pub returns-clause-frame : goal.returns-clause-frame
returns-clause-frame g c = c.in_ok-free_unkept.ensures.frame
