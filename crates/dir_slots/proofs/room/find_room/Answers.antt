use Rattle.std.proofs.Common.{sym, arith}
use Rattle.dir_slots.specs.Items.{items_of}
use Rattle.dir_slots.proofs.Rooms.{few_slots, short_items, none_found, some_found}
use Rattle.dir_slots.proofs.Rows.{searching_none, searching_next, searching_all, reached_next, next_fits}
use Rattle.dir_slots.proofs.room.find_room.Goals as goal

pub loop-at-init : goal.loop-at-init
loop-at-init c = searching_none c.args.n c.args.slots.now c.requires.least

pub overflow_cast-at : goal.overflow_cast-at
overflow_cast-at c = let many = few_slots c.args.slots.now c.requires.free in let all = c.requires.all in omega arith

pub row_with-row-requires : goal.row_with-row-requires
row_with-row-requires c =
    let fits = next_fits c.args.n c.args.slots.now c.loop-at.row c.loop-at.at c.index-slots-at.result c.loop-at-test.true c.index-slots-at.is c.requires.most c.requires.free c.requires.all c.loop-at.invariant in
    record {
      slots = fits.slots_fit;
      place = fits.place_fits;
      few = fits.few;
      free = fits.free;
    }

pub shortened-requires-clause-slots : goal.shortened-requires-clause-slots
shortened-requires-clause-slots c =
    let there = reached_next c.args.n c.args.slots.now c.loop-at.row c.row_with-row.result c.loop-at.at c.index-slots-at.result c.row_with-row.ensures c.loop-at-test.true c.index-slots-at.is c.requires.least c.requires.most c.requires.free c.loop-at.invariant c.if-row-n.true in
    let fits = there.slots_fit in
    let many = few_slots c.args.slots.now c.requires.free in
    let all = c.requires.all in
    omega arith

pub shortened-requires-clause-place : goal.shortened-requires-clause-place
shortened-requires-clause-place c =
    let there = reached_next c.args.n c.args.slots.now c.loop-at.row c.row_with-row.result c.loop-at.at c.index-slots-at.result c.row_with-row.ensures c.loop-at-test.true c.index-slots-at.is c.requires.least c.requires.most c.requires.free c.loop-at.invariant c.if-row-n.true in
    let fits = there.place_fits in
    let all = c.requires.all in
    omega arith

pub returns-then-row-n-clause-room : goal.returns-then-row-n-clause-room
returns-then-row-n-clause-room c =
    let there = reached_next c.args.n c.args.slots.now c.loop-at.row c.row_with-row.result c.loop-at.at c.index-slots-at.result c.row_with-row.ensures c.loop-at-test.true c.index-slots-at.is c.requires.least c.requires.most c.requires.free c.loop-at.invariant c.if-row-n.true in
    sym (there.found c.shortened.result c.shortened.ensures)

pub returns-then-row-n-clause-some : goal.returns-then-row-n-clause-some
returns-then-row-n-clause-some c =
    let there = reached_next c.args.n c.args.slots.now c.loop-at.row c.row_with-row.result c.loop-at.at c.index-slots-at.result c.row_with-row.ensures c.loop-at-test.true c.index-slots-at.is c.requires.least c.requires.most c.requires.free c.loop-at.invariant c.if-row-n.true in
    some_found c.args.n 0 0 (items_of c.args.slots.now) _ (there.found c.shortened.result c.shortened.ensures)

pub loop-at-preserved : goal.loop-at-preserved
loop-at-preserved c = searching_next c.args.n c.args.slots.now c.loop-at.row c.row_with-row.result c.loop-at.at c.index-slots-at.result c.row_with-row.ensures c.loop-at-test.true c.index-slots-at.is c.loop-at.invariant c.if-row-n.false

pub returns-clause-room : goal.returns-clause-room
returns-clause-room c = sym (searching_all c.args.n c.args.slots.now c.loop-at.row c.loop-at.at (let end = c.loop-at.auto.at-end in omega arith) c.loop-at.invariant)

pub returns-clause-none : goal.returns-clause-none
returns-clause-none c =
    none_found c.args.n 0 0 (items_of c.args.slots.now) c.requires.least c.requires.most (short_items c.args.slots.now c.requires.free)
    (searching_all c.args.n c.args.slots.now c.loop-at.row c.loop-at.at (let end = c.loop-at.auto.at-end in omega arith) c.loop-at.invariant)
