use Rattle.std.proofs.Common.{◌≡◌, ◌∙◌, ◌<◌, ◌+◌, ◌++◌, ◌∷◌, [], Some, refl, sym, ap, subst, length, set, take, arith}
use Rattle.std.specs.Option.{option_map}
use Rattle.std.proofs.lemmas.List.{length-map}
use Rattle.dir_slots.specs.Items.{item_of, items_of, room_of}
use Rattle.dir_slots.specs.declared.slot.Slot.TheVariants.{Free}
use Rattle.pack_model.specs.operations.Rooms.{find_room}
use Rattle.pack_model.specs.reading.Slots.Item.{space}
use Rattle.directory.specs.FoundRooms.{IsRoomIn}
use Rattle.directory.specs.FreeRows.{RowOf}
use Rattle.directory.proofs.FreeRows.{room_taken, row_goes_on, words_taken}
use Rattle.directory.proofs.RoomSizes.{room_sized}
use Rattle.directory.proofs.free_row.FreeRow.take_in.Goals as goal

pub find_room-requires-clause-all : goal.find_room-requires-clause-all
find_room-requires-clause-all c =
    let known = c.self.ranges in
    let most = c.self.invariant.count_is in
    let there : c.self.inside.count < length c.self.inside.slots = omega arith in
    let words = words_taken c.self.inside.slots c.self.inside.count c.args.words there in
    let few = c.self.invariant.few in
    let needed = c.self.invariant.most in
    let upper = c.requires.most in
    omega (arith, words, few, needed, upper)

pub bounds-row-room : goal.bounds-row-room
bounds-row-room c =
    let row = take (c.self.inside.count + 1) (set c.self.inside.slots c.self.inside.count (Free c.args.words)) in
    let found : find_room c.self.inside.needed (items_of row) ≡ Some (room_of c.in-Some.room) = sym c.find_room.ensures.room ∙ ap (option_map room_of) c.in-Some.is in
    let within = (room_sized c.self.inside.needed 0 0 (items_of row) (room_of c.in-Some.room) found).first in
    let size = length-map row item_of in
    let less : c.in-Some.room.first < length row = omega (arith, within, size) in
    less

pub invariant_of-self-in-None : goal.invariant_of-self-in-None
invariant_of-self-in-None c =
    let known = c.self.ranges in
    let most = c.self.invariant.count_is in
    let there : c.self.inside.count < length c.self.inside.slots = omega arith in
    row_goes_on c.self.inside.slots c.self.inside.count c.args.words there c.self.inside.needed c.self.invariant c.requires.least c.requires.most c.in-None.ensures.none

pub returns-in-Some-clause-room : goal.returns-in-Some-clause-room
returns-in-Some-clause-room c =
    let known = c.self.ranges in
    let most = c.self.invariant.count_is in
    let there : c.self.inside.count < length c.self.inside.slots = omega arith in
    let row = take (c.self.inside.count + 1) (set c.self.inside.slots c.self.inside.count (Free c.args.words)) in
    let found : find_room c.self.inside.needed (items_of row) ≡ Some (room_of c.in-Some.room) = sym c.find_room.ensures.room ∙ ap (option_map room_of) c.in-Some.is in
    subst (λ (v : RowOf). IsRoomIn v.needed (v.items ++ space c.args.words ∷ []) (record { first = c.words-first.result; total = c.in-Some.room.total })) c.self.view_is
    (room_taken c.self.inside.slots c.self.inside.count c.args.words there c.self.inside.needed c.self.invariant (room_of c.in-Some.room) (record { first = c.words-first.result; total = c.in-Some.room.total }) c.index-row-room.result found refl c.words-first.ensures c.index-row-room.is)

pub returns-in-Some-clause-some : goal.returns-in-Some-clause-some
returns-in-Some-clause-some c =
    let row = take (c.self.inside.count + 1) (set c.self.inside.slots c.self.inside.count (Free c.args.words)) in
    let found : find_room c.self.inside.needed (items_of row) ≡ Some (room_of c.in-Some.room) = sym c.find_room.ensures.room ∙ ap (option_map room_of) c.in-Some.is in
    let most = (room_sized c.self.inside.needed 0 0 (items_of row) (room_of c.in-Some.room) found).total in
    let least = c.self.invariant.least in
    omega (arith, most, least)
