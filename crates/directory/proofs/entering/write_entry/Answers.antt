use Rattle.std.proofs.Common.{Err, IsTrue, Some, ◌++◌, ◌∙◌, ◌≡◌, List, ap, refl, subst, sym, arith}
use Rattle.std.specs.Prelude.{◌==◌}
use Rattle.disk_records.proofs.Framing.{page_by_sector, writes_then}
use Rattle.disk_records.proofs.Growing.{alone_twice}
use Rattle.disk_records.specs.Commands.{value_writes}
use Rattle.disk_records.specs.Frames.{IsPageOf}
use Rattle.disk_records.specs.Packs.{carried}
use Rattle.disk_records.specs.Tapes.{pack}
use Rattle.disk_records.specs.declared.records.Event.{Event}
use Rattle.disk_records.specs.declared.records.Page.{Page}
use Rattle.file_pages.specs.Values.{WroteValue}
use Rattle.laws_call.specs.Acting.{around}
use Rattle.pack_model.specs.operations.PageWords.{freed_value, in_page, later, near}
use Rattle.pack_model.specs.reading.Bytes.{put_at}
use Rattle.page_seeking.proofs.Erring.{if_misled_map}
use Rattle.directory.specs.Entering.{has_later, joining_writes, next_writes, room_value}
use Rattle.directory.specs.Leaving.{Wrote}
use Rattle.directory.proofs.Answering.{misled_in}
use Rattle.directory.proofs.EntryPages.{next_is, places_twice, still_carried}
use Rattle.directory.proofs.EntrySteps.{both_done, first_failed, joins_are, last_written, next_are, only_writes, second_failed}
use Rattle.directory.proofs.Misleading.{misled_map, was_found}
use Rattle.directory.proofs.entering.write_entry.Goals as goal

pub returns-in-Err-clause-writes : goal.returns-in-Err-clause-writes
returns-in-Err-clause-writes g c o bits told =
    let room = c.args.room.now in
    let words = c.args.words.now in
    let v = c.args.buf.now.value in
    let joins = joins_are c.join_slots-joins.result (room.words.first == room.words.total) c.args.at v (freed_value room.place room.words.total v) c.join_slots-joins.new.value c.join_slots-joins.ensures.joins c.join_slots-joins.ensures.value in
    first_failed {U = Unit {0}} (joining_writes room c.args.at v) (next_writes room words c.args.next_at c.args.next.now.value) (value_writes c.args.at (room_value room words v)) o bits c.args.tally.now c.in-Err.error
    (subst (λ (l : List Event). Wrote {T = Unit {0}} l (g.D.Tape.tape c.args.disk.now) (g.D.Tape.tape c.write_first.new.disk) (Err c.in-Err.error)) joins (c.in-Err.ensures.writes told))

pub returns-in-Err-write_first-clause-writes : goal.returns-in-Err-write_first-clause-writes
returns-in-Err-write_first-clause-writes g c o bits told =
    let room = c.args.room.now in
    let words = c.args.words.now in
    let v = c.args.buf.now.value in
    let w = c.args.next.now.value in
    let b = g.D.Tape.tape c.write_first.new.disk in
    let e = g.D.Tape.tape c.write_first-2.new.disk in
    let joins = joins_are c.join_slots-joins.result (room.words.first == room.words.total) c.args.at v (freed_value room.place room.words.total v) c.join_slots-joins.new.value c.join_slots-joins.ensures.joins c.join_slots-joins.ensures.value in
    let next = next_are c.has_later.result (has_later room words) c.args.next_at c.put_later.new.value (put_at 0 (later room.place words) w) c.has_later.ensures c.put_later.ensures in
    second_failed {U = Unit {0}} (joining_writes room c.args.at v) (next_writes room words c.args.next_at w) (value_writes c.args.at (room_value room words v)) o bits c.args.tally.now c.in-Err-write_first.error c.write_first.ensures.alone c.write_first-2.ensures.alone
    ((c.in-Ok.ensures.writes told).all ∙ joins)
    (subst (λ (l : List Event). Wrote {T = Unit {0}} l b e (Err c.in-Err-write_first.error)) next (c.in-Err-write_first.ensures.writes told))

pub returns-clause-writes : goal.returns-clause-writes
returns-clause-writes g c o bits told =
    let room = c.args.room.now in
    let words = c.args.words.now in
    let v = c.args.buf.now.value in
    let w = c.args.next.now.value in
    let a = g.D.Tape.tape c.args.disk.now in
    let e = g.D.Tape.tape c.write_first-2.new.disk in
    let d = g.D.Tape.tape c.write_page.new.disk in
    let freed = freed_value room.place room.words.total v in
    let one = c.write_first.ensures.alone in
    let two = c.write_first-2.ensures.alone in
    let joins = joins_are c.join_slots-joins.result (room.words.first == room.words.total) c.args.at v freed c.join_slots-joins.new.value c.join_slots-joins.ensures.joins c.join_slots-joins.ensures.value in
    let next = next_are c.has_later.result (has_later room words) c.args.next_at c.put_later.new.value (put_at 0 (later room.place words) w) c.has_later.ensures c.put_later.ensures in
    let done = both_done (joining_writes room c.args.at v) (next_writes room words c.args.next_at w) one two ((c.in-Ok.ensures.writes told).all ∙ joins) ((c.in-Ok-write_first.ensures.writes told).all ∙ next) in
    let value : c.put_near.new.value ≡ room_value room words v = c.put_near.ensures ∙ ap (put_at (in_page room.place) (near room.place words)) c.join_slots-joins.ensures.value in
    let limit = c.limit_of-limit.ensures in
    last_written a e d (joining_writes room c.args.at v ++ next_writes room words c.args.next_at w) c.args.at (room_value room words v) o c.args.tally.now c.write_page.new.tally (alone_twice one two) c.write_page.ensures.alone done
    (only_writes (room.words.first == room.words.total) (has_later room words) c.args.at c.args.next_at freed (put_at 0 (later room.place words) w)) (omega (arith, limit)) (g.met.D.Disk.counted c.args.disk.now told) (g.met.D.Disk.counted c.write_first-2.new.disk told) bits c.write_page.result c.in_directory.result c.in_directory.ensures
    (subst (λ l. WroteValue {T = Unit {0}} c.args.at l o (around e bits c.args.tally.now) (around d bits c.write_page.new.tally) c.write_page.result) value (c.write_page.ensures.writes o bits told))

pub returns-in-Err-write_first-clause-misled : goal.returns-in-Err-write_first-clause-misled
returns-in-Err-write_first-clause-misled g c told carries later =
    c.in-Err-write_first.ensures.misled told (λ wanted.
    still_carried c.args.at c.args.page c.join_slots-joins.new.value c.join_slots-joins.result c.args.next_at c.write_first.ensures.alone (c.in-Ok.ensures.writes told).all (λ joins. carries) ∙ later (sym c.has_later.ensures ∙ wanted) ∙ ap Some (next_is c.args.page c.saturating_add.result c.saturating_add.ensures))

pub returns-clause-misled : goal.returns-clause-misled
returns-clause-misled g c told carries later =
    let b = g.D.Tape.tape c.write_first.new.disk in
    let after : Page = record { fid = c.args.page.fid; number = c.saturating_add.result } in
    let first = still_carried c.args.at c.args.page c.join_slots-joins.new.value c.join_slots-joins.result in
    let still = first c.args.at c.write_first.ensures.alone (c.in-Ok.ensures.writes told).all (λ joins. carries) in
    let there : IsTrue c.has_later.result → carried (pack b) c.args.next_at ≡ Some after = λ wanted.
    first c.args.next_at c.write_first.ensures.alone (c.in-Ok.ensures.writes told).all (λ joins. carries) ∙ later (sym c.has_later.ensures ∙ wanted) ∙ ap Some (next_is c.args.page c.saturating_add.result c.saturating_add.ensures) in
    let still_then = still_carried c.args.next_at after c.put_later.new.value c.has_later.result c.args.at c.write_first-2.ensures.alone (c.in-Ok-write_first.ensures.writes told).all there in
    misled_in _ c.write_page.result c.in_directory.result c.in_directory.ensures (c.write_page.ensures.misled told (still_then ∙ still ∙ carries))

pub returns-in-Err-clause-held : goal.returns-in-Err-clause-held
returns-in-Err-clause-held g c = misled_map {T = Unit {0}} (Err c.in-Err.error) c.in-Err.ensures.held (was_found c.args.page.fid c.args.at c.args.page refl)

pub returns-in-Err-write_first-clause-held : goal.returns-in-Err-write_first-clause-held
returns-in-Err-write_first-clause-held g c =
    misled_map {T = Unit {0}} (Err c.in-Err-write_first.error) c.in-Err-write_first.ensures.held (was_found c.args.page.fid c.args.next_at (record { fid = c.args.page.fid; number = c.saturating_add.result }) refl)

pub returns-clause-held : goal.returns-clause-held
returns-clause-held g c = misled_in _ c.write_page.result c.in_directory.result c.in_directory.ensures (if_misled_map c.write_page.result c.write_page.ensures.held (was_found c.args.page.fid c.args.at c.args.page refl))

pub returns-in-Err-write_first-clause-alone : goal.returns-in-Err-write_first-clause-alone
returns-in-Err-write_first-clause-alone g c = alone_twice c.write_first.ensures.alone c.write_first-2.ensures.alone

pub returns-clause-alone : goal.returns-clause-alone
returns-clause-alone g c = alone_twice (alone_twice c.write_first.ensures.alone c.write_first-2.ensures.alone) c.write_page.ensures.alone

pub returns-in-Err-write_first-clause-places : goal.returns-in-Err-write_first-clause-places
returns-in-Err-write_first-clause-places g c told = places_twice (c.write_first.ensures.places told) (c.write_first-2.ensures.places told)

pub returns-clause-places : goal.returns-clause-places
returns-clause-places g c told = places_twice (places_twice (c.write_first.ensures.places told) (c.write_first-2.ensures.places told)) (c.write_page.ensures.places told)

pub returns-in-Err-write_first-clause-frame : goal.returns-in-Err-write_first-clause-frame
returns-in-Err-write_first-clause-frame g c told =
    let f = c.args.page.fid in
    writes_then (IsPageOf f) (page_by_sector f) c.write_first.ensures.alone.grown c.write_first-2.ensures.alone.grown (c.write_first.ensures.frame told) (c.write_first-2.ensures.frame told)

pub returns-clause-frame : goal.returns-clause-frame
returns-clause-frame g c told =
    let f = c.args.page.fid in
    let two = writes_then (IsPageOf f) (page_by_sector f) c.write_first.ensures.alone.grown c.write_first-2.ensures.alone.grown (c.write_first.ensures.frame told) (c.write_first-2.ensures.frame told) in
    writes_then (IsPageOf f) (page_by_sector f) (alone_twice c.write_first.ensures.alone c.write_first-2.ensures.alone).grown c.write_page.ensures.alone.grown two (c.write_page.ensures.frame told)
