use Rattle.std.proofs.Common.{◌/◌, [], ◌∷◌, get_or, refl}
use Rattle.disk_records.specs.Tapes.{pack}
use Rattle.disk_records.proofs.Growing.{alone_here}
use Rattle.disk_records.proofs.Framing.{usable_here}
use Rattle.pack_model.specs.operations.PageWords.{in_page}
use Rattle.scav_names.proofs.Going.{does_ok, so_far_here}
use Rattle.scav_names.proofs.OneRoom.{one_already, place_known, several_keep, several_made}
use Rattle.scav_names.proofs.WordRuns.{does_writes, page_changes}
use Rattle.scav_names.specs.Roots.{RoomMadeOne}
use Rattle.scav_names.proofs.entering.make_one.Goals as goal

pub returns-then-room-clause-does : goal.returns-then-room-clause-does
returns-then-room-clause-does g c = λ told next todo may. does_ok tt (so_far_here (g.D.Tape.tape c.args.disk.now)) (one_already may c.if-room.true)

pub returns-clause-does : goal.returns-clause-does
returns-clause-does g c = λ told next todo may.
    does_writes {Leaves = RoomMadeOne c.args.root.now next todo c.args.room.now} c.put_in_root.result c.put_in_root.ensures.alone.grown (c.put_in_root.ensures.writes told may.may.known.pages (place_known may)) (several_keep may) (page_changes (pack (g.D.Tape.tape c.args.disk.now)) (get_or c.args.root.now.pages (c.args.room.now.place / 256) 0) (in_page c.args.room.now.place) (c.args.room.now.total ∷ [])) (several_made may)

pub returns-clause-cause : goal.returns-clause-cause
returns-clause-cause g c = c.put_in_root.ensures.cause

pub returns-then-room-clause-cause : goal.returns-then-room-clause-cause
returns-then-room-clause-cause g c = refl

pub returns-then-room-clause-alone : goal.returns-then-room-clause-alone
returns-then-room-clause-alone g c = alone_here _

pub returns-then-room-clause-frame : goal.returns-then-room-clause-frame
returns-then-room-clause-frame g c = usable_here (g.D.Tape.tape c.args.disk.now)

pub returns-clause-alone : goal.returns-clause-alone
returns-clause-alone g c = c.put_in_root.ensures.alone

pub returns-clause-frame : goal.returns-clause-frame
returns-clause-frame g c = c.put_in_root.ensures.frame
