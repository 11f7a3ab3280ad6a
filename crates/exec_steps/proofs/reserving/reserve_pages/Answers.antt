use Rattle.std.proofs.Common.{◌≡◌, ◌<◌, ℕ, IsTrue, length, min, arith}
use Rattle.disk_records.specs.Tapes.{pack}
use Rattle.exec_words.specs.declared.reply.Refusal.TheVariants as refusal
use Rattle.exec_session.specs.laws_hint.proofs.tables.Laws.{reserving_keeps_the_table}
use Rattle.pack_model.specs.reading.Model.{read_as, room}
use Rattle.page_alloc.specs.Free.{free_addresses}
use Rattle.exec_steps.proofs.SectorTaking.{each_sector, full_is, on_err, refused_of_alloc, room_enough, true_in_both, hint_of_alloc}
use Rattle.exec_session.proofs.Causing.{cause_by_alloc, cause_passed}
use Rattle.exec_session.specs.Stops.{stop_of_alloc}
use Rattle.exec_session.proofs.Parts.{ok_of_error}
use Rattle.exec_steps.proofs.reserving.reserve_pages.Goals as goal

pub returns-in_err-reserve-clause-full : goal.returns-in_err-reserve-clause-full
returns-in_err-reserve-clause-full g c = λ told sound.
    let p = pack (g.D.Tape.tape c.args.disk.now) in
    let n = c.min-count.result in
    refused_of_alloc ℕ (λ r. (r ≡ refusal.Full (min c.args.pages 65535) (room (read_as p))) × (room (read_as p) < c.args.pages))
    (λ needed free. (needed ≡ n) × (free < n) × (IsTrue g.D.Tape.told → free ≡ length (free_addresses p)))
    c.in_err-reserve.field-0.0 c.from_residual.result c.from_residual.ensures.1
    (λ needed free h. full_is p c.args.pages n needed free sound c.min-count.ensures h.0 h.1 (h.2 told))
    c.in_err-reserve.ensures.full

pub returns-in_err-reserve-clause-stays_true : goal.returns-in_err-reserve-clause-stays_true
returns-in_err-reserve-clause-stays_true g c = λ told sound table.
    let t = g.D.Tape.tape c.args.disk.now in
    on_err c.from_residual.result
    ((reserving_keeps_the_table (pack t) c.args.session.now.hints.table c.reserve.new.table sound.whole (each_sector t (g.met.D.Disk.sized c.args.disk.now told)) table c.reserve.ensures.sized).refused (c.in_err-reserve.ensures.refused told))

pub returns-clause-enough : goal.returns-clause-enough
returns-clause-enough g c = λ told sound. room_enough (pack (g.D.Tape.tape c.args.disk.now)) c.args.pages c.min-count.result sound c.min-count.ensures (c.in_ok-reserve.ensures.few told)

pub returns-clause-table : goal.returns-clause-table
returns-clause-table g c = λ told sound table.
    let t = g.D.Tape.tape c.args.disk.now in
    (reserving_keeps_the_table (pack t) c.args.session.now.hints.table c.reserve.new.table sound.whole (each_sector t (g.met.D.Disk.sized c.args.disk.now told)) table c.reserve.ensures.sized).taken
    c.in_ok-reserve.field-0.items (c.in_ok-reserve.ensures.others told) c.in_ok-reserve.ensures.reserved.busy (c.in_ok-reserve.ensures.free told)

pub returns-clause-soon : goal.returns-clause-soon
returns-clause-soon g c = λ told sound table.
    let t = g.D.Tape.tape c.args.disk.now in
    let both = true_in_both (pack t) c.args.session.now.hints.table sound (each_sector t (g.met.D.Disk.sized c.args.disk.now told)) c.requires.sized table in
    let few = c.in_ok-reserve.ensures.soon told both in
    let n = c.min-count.ensures in
    omega (arith, few, n)

pub returns-in_err-reserve-clause-reserved : goal.returns-in_err-reserve-clause-reserved
returns-in_err-reserve-clause-reserved g c = ok_of_error _ _ c.from_residual.result c.from_residual.ensures.1

pub returns-in_err-reserve-clause-free : goal.returns-in_err-reserve-clause-free
returns-in_err-reserve-clause-free g c = λ told. ok_of_error _ _ c.from_residual.result c.from_residual.ensures.1

pub returns-in_err-reserve-clause-enough : goal.returns-in_err-reserve-clause-enough
returns-in_err-reserve-clause-enough g c = λ told sound. ok_of_error _ _ c.from_residual.result c.from_residual.ensures.1

pub returns-in_err-reserve-clause-table : goal.returns-in_err-reserve-clause-table
returns-in_err-reserve-clause-table g c = λ told sound table. ok_of_error _ _ c.from_residual.result c.from_residual.ensures.1

pub returns-in_err-reserve-clause-soon : goal.returns-in_err-reserve-clause-soon
returns-in_err-reserve-clause-soon g c = λ told sound table. ok_of_error _ _ c.from_residual.result c.from_residual.ensures.1

pub returns-in_err-reserve-clause-never_misled : goal.returns-in_err-reserve-clause-never_misled
returns-in_err-reserve-clause-never_misled g c = hint_of_alloc (λ place at wanted found. ⊥) c.in_err-reserve.field-0.0 c.from_residual.result c.from_residual.ensures.1

pub returns-in_err-reserve-clause-cause : goal.returns-in_err-reserve-clause-cause
returns-in_err-reserve-clause-cause g c = cause_passed (g.D.Tape.tape c.args.disk.now) (g.D.Tape.tape c.reserve.new.disk) (stop_of_alloc c.in_err-reserve.field-0.0) c.from_residual.result c.from_residual.ensures.1 (cause_by_alloc (g.D.Tape.tape c.args.disk.now) (g.D.Tape.tape c.reserve.new.disk) c.in_err-reserve.field-0.0 c.in_err-reserve.ensures.cause)

pub returns-in_err-reserve-clause-looks : goal.returns-in_err-reserve-clause-looks
returns-in_err-reserve-clause-looks g c = c.reserve.ensures.looks

pub returns-in_err-reserve-clause-sized : goal.returns-in_err-reserve-clause-sized
returns-in_err-reserve-clause-sized g c = c.reserve.ensures.sized

pub returns-clause-full : goal.returns-clause-full
returns-clause-full g c = λ told sound. tt

pub returns-clause-never_misled : goal.returns-clause-never_misled
returns-clause-never_misled g c = tt

pub returns-clause-stays_true : goal.returns-clause-stays_true
returns-clause-stays_true g c = λ told sound table. tt

pub returns-clause-sized : goal.returns-clause-sized
returns-clause-sized g c = c.reserve.ensures.sized

pub returns-clause-cause : goal.returns-clause-cause
returns-clause-cause g c = c.in_ok-reserve.ensures.cause

pub returns-clause-looks : goal.returns-clause-looks
returns-clause-looks g c = c.reserve.ensures.looks

pub returns-clause-free : goal.returns-clause-free
returns-clause-free g c = c.in_ok-reserve.ensures.free
