use Rattle.std.proofs.Common.{◌∷◌, arith, refl}
use Rattle.alto_words.specs.Fid.{sys_dir}
use Rattle.disk_records.specs.Tapes.{pack}
use Rattle.disk_records.proofs.Growing.{alone_here}
use Rattle.disk_records.proofs.Framing.{usable_here}
use Rattle.pack_model.specs.hints.Links.{dir_words}
use Rattle.pack_model.specs.reading.Slots.{slots}
use Rattle.scav_pages.proofs.Causing.{cause_of_part}
use Rattle.scav_names.proofs.Going.{does_ok, does_part, so_far_does, so_far_here}
use Rattle.scav_names.proofs.NextEntry.{none_there, room_comes, room_then, room_there}
use Rattle.scav_names.proofs.enter.make_room.Goals as goal

pub returns-in_err-widen_root-clause-does : goal.returns-in_err-widen_root-clause-does
returns-in_err-widen_root-clause-does g c = λ told next todo is may.
    let a = g.D.Tape.tape c.args.disk.now in
    let none = c.in_default.ensures.room (slots (dir_words (pack a) sys_dir)) may.rooms in
    does_part c.in_err-widen_root.field-0.0 c.from_residual.result (so_far_here a) c.in_err-widen_root.ensures.alone.grown (c.in_err-widen_root.ensures.does told (next ∷ todo) (none_there c.args.words is (let few = c.requires.most in omega (arith, few)) may none)) c.from_residual.ensures.1

pub returns-in-Some-find-clause-does : goal.returns-in-Some-find-clause-does
returns-in-Some-find-clause-does g c = λ told next todo is may.
    let a = g.D.Tape.tape c.args.disk.now in
    let b = g.D.Tape.tape c.widen_root.new.disk in
    let none = c.in_default.ensures.room (slots (dir_words (pack a) sys_dir)) may.rooms in
    let wide = c.in_ok-widen_root.ensures.does told (next ∷ todo) (none_there c.args.words is (let few = c.requires.most in omega (arith, few)) may none) in
    let first = c.in-Some-find.ensures.room (slots (dir_words (pack b) sys_dir)) wide.leaves.may.rooms in
    does_ok c.in-Some-find.room (so_far_does (so_far_here a) c.in_ok-widen_root.ensures.alone.grown wide) (room_then c.args.words c.in-Some-find.room is wide.leaves first)

pub returns-in-None-clause-does : goal.returns-in-None-clause-does
returns-in-None-clause-does g c = λ told next todo is may.
    let a = g.D.Tape.tape c.args.disk.now in
    let b = g.D.Tape.tape c.widen_root.new.disk in
    let none = c.in_default.ensures.room (slots (dir_words (pack a) sys_dir)) may.rooms in
    let wide = c.in_ok-widen_root.ensures.does told (next ∷ todo) (none_there c.args.words is (let few = c.requires.most in omega (arith, few)) may none) in
    absurd (room_comes c.args.words is wide.leaves (c.in-None.ensures.room (slots (dir_words (pack b) sys_dir)) wide.leaves.may.rooms))

pub returns-in_err-widen_root-clause-cause : goal.returns-in_err-widen_root-clause-cause
returns-in_err-widen_root-clause-cause g c = cause_of_part c.in_err-widen_root.field-0.0 c.from_residual.result (alone_here _) refl c.in_err-widen_root.ensures.alone c.in_err-widen_root.ensures.cause c.from_residual.ensures.1

pub returns-in-Some-clause-does : goal.returns-in-Some-clause-does
returns-in-Some-clause-does g c = λ told next todo is may. does_ok c.in-Some.room (so_far_here (g.D.Tape.tape c.args.disk.now)) (room_there c.args.words c.in-Some.room is may (c.in-Some.ensures.room (slots (dir_words (pack (g.D.Tape.tape c.args.disk.now)) sys_dir)) may.rooms))

pub returns-in-Some-clause-first : goal.returns-in-Some-clause-first
returns-in-Some-clause-first g c = c.requires.first

pub returns-in-Some-clause-cause : goal.returns-in-Some-clause-cause
returns-in-Some-clause-cause g c = refl

pub returns-in-Some-clause-alone : goal.returns-in-Some-clause-alone
returns-in-Some-clause-alone g c = alone_here _

pub returns-in-Some-clause-frame : goal.returns-in-Some-clause-frame
returns-in-Some-clause-frame g c = usable_here (g.D.Tape.tape c.args.disk.now)

pub returns-in_err-widen_root-clause-first : goal.returns-in_err-widen_root-clause-first
returns-in_err-widen_root-clause-first g c = c.in_err-widen_root.ensures.first

pub returns-in_err-widen_root-clause-alone : goal.returns-in_err-widen_root-clause-alone
returns-in_err-widen_root-clause-alone g c = c.in_err-widen_root.ensures.alone

pub returns-in_err-widen_root-clause-frame : goal.returns-in_err-widen_root-clause-frame
returns-in_err-widen_root-clause-frame g c = c.in_err-widen_root.ensures.frame

pub returns-in-Some-find-clause-first : goal.returns-in-Some-find-clause-first
returns-in-Some-find-clause-first g c = c.in_ok-widen_root.ensures.first

pub returns-in-Some-find-clause-cause : goal.returns-in-Some-find-clause-cause
returns-in-Some-find-clause-cause g c = c.in_ok-widen_root.ensures.cause

pub returns-in-Some-find-clause-alone : goal.returns-in-Some-find-clause-alone
returns-in-Some-find-clause-alone g c = c.in_ok-widen_root.ensures.alone

pub returns-in-Some-find-clause-frame : goal.returns-in-Some-find-clause-frame
returns-in-Some-find-clause-frame g c = c.in_ok-widen_root.ensures.frame

pub returns-in-None-clause-first : goal.returns-in-None-clause-first
returns-in-None-clause-first g c = c.in_ok-widen_root.ensures.first

pub returns-in-None-clause-cause : goal.returns-in-None-clause-cause
returns-in-None-clause-cause g c = c.in_ok-widen_root.ensures.cause

pub returns-in-None-clause-alone : goal.returns-in-None-clause-alone
returns-in-None-clause-alone g c = c.in_ok-widen_root.ensures.alone

pub returns-in-None-clause-frame : goal.returns-in-None-clause-frame
returns-in-None-clause-frame g c = c.in_ok-widen_root.ensures.frame
