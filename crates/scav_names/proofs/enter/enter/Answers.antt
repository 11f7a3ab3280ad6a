use Rattle.std.proofs.Common.{refl, sym, subst, ◌∙◌}
use Rattle.alto_words.specs.Fid.{sys_dir}
use Rattle.disk_records.specs.Tapes.{pack}
use Rattle.disk_records.proofs.Growing.{alone_here, alone_twice}
use Rattle.disk_records.proofs.Framing.{usable_twice}
use Rattle.pack_model.specs.hints.Links.{dir_words}
use Rattle.pack_model.specs.reading.Slots.{slots}
use Rattle.scav_pages.specs.declared.errors.Stop.TheVariants.{Memory}
use Rattle.scav_pages.proofs.Causing.{cause_of_part}
use Rattle.scav_names.specs.Rooms.{IsFirstRoom}
use Rattle.scav_names.proofs.Going.{does_ok, does_part, does_stop, so_far_does, so_far_here}
use Rattle.scav_names.proofs.NextEntry.{entered, entered_after}
use Rattle.scav_names.proofs.enter.enter.Goals as goal

pub returns-in_err-write_entry-clause-alone : goal.returns-in_err-write_entry-clause-alone
returns-in_err-write_entry-clause-alone g c = alone_twice c.in_ok-room.ensures.alone c.in_err-write_entry.ensures.alone

pub returns-in_err-write_entry-clause-frame : goal.returns-in_err-write_entry-clause-frame
returns-in_err-write_entry-clause-frame g c = usable_twice c.in_ok-room.ensures.alone c.in_err-write_entry.ensures.alone c.in_ok-room.ensures.frame c.in_err-write_entry.ensures.frame

pub returns-in_err-write_entry-clause-does : goal.returns-in_err-write_entry-clause-does
returns-in_err-write_entry-clause-does g c = λ told todo may.
    let a = g.D.Tape.tape c.args.disk.now in
    let made = c.in_ok-room.ensures.does told c.args.file.now todo c.entry_words-words.ensures.words may in
    does_part c.in_err-write_entry.field-0.0 c.from_residual-in_err-write_entry.result (so_far_does (so_far_here a) c.in_ok-room.ensures.alone.grown made) c.in_err-write_entry.ensures.alone.grown
    (c.in_err-write_entry.ensures.does told todo made.leaves.may) c.from_residual-in_err-write_entry.ensures.1

pub returns-in_err-fill-clause-alone : goal.returns-in_err-fill-clause-alone
returns-in_err-fill-clause-alone g c = alone_twice c.in_ok-room.ensures.alone c.in_ok-write_entry.ensures.alone

pub returns-in_err-fill-clause-frame : goal.returns-in_err-fill-clause-frame
returns-in_err-fill-clause-frame g c = usable_twice c.in_ok-room.ensures.alone c.in_ok-write_entry.ensures.alone c.in_ok-room.ensures.frame c.in_ok-write_entry.ensures.frame

pub returns-in_err-fill-clause-does : goal.returns-in_err-fill-clause-does
returns-in_err-fill-clause-does g c = λ told todo may.
    let a = g.D.Tape.tape c.args.disk.now in
    let made = c.in_ok-room.ensures.does told c.args.file.now todo c.entry_words-words.ensures.words may in
    let wrote = c.in_ok-write_entry.ensures.does told todo made.leaves.may in
    does_stop Memory c.from_residual-in_err-fill.result (so_far_does (so_far_does (so_far_here a) c.in_ok-room.ensures.alone.grown made) c.in_ok-write_entry.ensures.alone.grown wrote) (λ astray. cc) c.from_residual-in_err-fill.ensures.1

pub returns-clause-alone : goal.returns-clause-alone
returns-clause-alone g c = alone_twice c.in_ok-room.ensures.alone c.in_ok-write_entry.ensures.alone

pub returns-clause-frame : goal.returns-clause-frame
returns-clause-frame g c = usable_twice c.in_ok-room.ensures.alone c.in_ok-write_entry.ensures.alone c.in_ok-room.ensures.frame c.in_ok-write_entry.ensures.frame

pub returns-clause-does : goal.returns-clause-does
returns-clause-does g c = λ told todo may.
    let a = g.D.Tape.tape c.args.disk.now in
    let b = g.D.Tape.tape c.make_room.new.disk in
    let file = c.args.file.now in
    let words = c.entry_words-words.ensures.words in
    let made = c.in_ok-room.ensures.does told file todo words may in
    let wrote = c.in_ok-write_entry.ensures.does told todo made.leaves.may in
    let is = slots (dir_words (pack b) sys_dir) in
    let first = subst (λ n. IsFirstRoom n is c.in_ok-room.room) (sym words) made.leaves.may.first in
    let rooms = c.in_ok-fill.ensures is made.leaves.may.may.rooms first file.fid file.name (sym words) in
    does_ok tt (so_far_does (so_far_does (so_far_here a) c.in_ok-room.ensures.alone.grown made) c.in_ok-write_entry.ensures.alone.grown wrote)
    (entered_after made.leaves.stay (entered made.leaves.may.may wrote.leaves refl refl rooms))

pub returns-in_err-room-clause-cause : goal.returns-in_err-room-clause-cause
returns-in_err-room-clause-cause g c = cause_of_part c.in_err-room.field-0.0 c.from_residual.result (alone_here _) refl c.in_err-room.ensures.alone c.in_err-room.ensures.cause c.from_residual.ensures.1

pub returns-in_err-write_entry-clause-cause : goal.returns-in_err-write_entry-clause-cause
returns-in_err-write_entry-clause-cause g c = cause_of_part c.in_err-write_entry.field-0.0 c.from_residual-in_err-write_entry.result c.in_ok-room.ensures.alone c.in_ok-room.ensures.cause c.in_err-write_entry.ensures.alone c.in_err-write_entry.ensures.cause c.from_residual-in_err-write_entry.ensures.1

pub returns-in_err-fill-clause-cause : goal.returns-in_err-fill-clause-cause
returns-in_err-fill-clause-cause g c = cause_of_part Memory c.from_residual-in_err-fill.result (alone_twice c.in_ok-room.ensures.alone c.in_ok-write_entry.ensures.alone) (c.in_ok-write_entry.ensures.cause ∙ c.in_ok-room.ensures.cause) (alone_here _) refl c.from_residual-in_err-fill.ensures.1

pub returns-in_err-room-clause-alone : goal.returns-in_err-room-clause-alone
returns-in_err-room-clause-alone g c = c.in_err-room.ensures.alone

pub returns-in_err-room-clause-frame : goal.returns-in_err-room-clause-frame
returns-in_err-room-clause-frame g c = c.in_err-room.ensures.frame

pub returns-in_err-room-clause-first : goal.returns-in_err-room-clause-first
returns-in_err-room-clause-first g c = c.in_err-room.ensures.first

pub returns-clause-cause : goal.returns-clause-cause
returns-clause-cause g c = c.in_ok-write_entry.ensures.cause ∙ c.in_ok-room.ensures.cause
