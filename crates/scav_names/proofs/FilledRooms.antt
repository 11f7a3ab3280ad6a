-- Rooms once an entry is placed in the first room for it.
use Rattle.std.proofs.Common.{◌≡◌, ℕ, zero, suc, ◌+◌, ◌-◌, ◌<◌, ◌≤◌, min, List, [], ◌∷◌, ◌++◌, length, get_or, set, Option, Some, None, inl, inr, refl, sym, ap, ◌∙◌, subst, append_assoc, append-nil, arith}
use Rattle.std.specs.Prelude.{All}
use Rattle.std.specs.Option.{unwrap_or}
use Rattle.std.proofs.lemmas.Bool.{cases_eq}
use Rattle.std.proofs.lemmas.List.{get_or-set_other, get_or-set_same, length-set}
use Rattle.std.proofs.lemmas.List.Elements.{All-append, All-cons, All-nil}
use Rattle.alto_words.specs.declared.fid.Fid.{Fid}
use Rattle.pack_model.specs.operations.Rooms.{Room, find_room, items_entered, largest_run, left_over, placed}
use Rattle.pack_model.specs.reading.Slots.{Item, all_words, item_words}
use Rattle.pack_model.specs.reading.Slots.Item.{space, entry}
use Rattle.dir_slots.proofs.Slots.{all_words-append}
use Rattle.scav_pages.specs.laws_record.specs.SlotLaws.{IsPlacedIn}
use Rattle.scav_pages.specs.laws_record.proofs.slots.Laws.{found_is_placed}
use Rattle.scav_names.specs.declared.rooms.EntryRoom.{EntryRoom}
use Rattle.scav_names.specs.declared.rooms.Rooms.{Rooms}
use Rattle.scav_names.specs.Rooms.{HasRooms, IsFirstRoom, IsPassedOver, IsRow, IsSize, free_slots}
use Rattle.scav_names.proofs.Filling.{few_before, left_words, passed_filled, room_short}
use Rattle.scav_names.proofs.FreeSlots.{free_append}
use Rattle.scav_names.proofs.Keys.{all_left, all_right}

-- What is done: the room's slots are taken out, its last words are a free slot, and no room for so many words begins before it.
pub record FillsRoom (rooms mid new : Rooms) (room : EntryRoom) (n next : ℕ) : Type 0 where
  pub least : 1 ≤ n
  pub most : n ≤ 26
  pub fits : n ≤ room.total
  pub out : (before row rest : List Item) → IsRow room before row rest → rooms.free.entries ≡ free_slots 0 (before ++ (row ++ rest)) → mid.free.entries ≡ free_slots 0 before ++ free_slots (room.place + room.total) rest
  pub next_is : next ≡ min (room.place + n) 4294967295
  pub kept : (before rest : List Item) → All IsSize before → all_words before ≡ next → mid.free.entries ≡ free_slots 0 before ++ free_slots (next + (room.total - n)) rest → new.free.entries ≡ free_slots 0 (before ++ left_over (room.total - n) rest)
  pub end_is : new.end ≡ rooms.end
  pub from : new.from ≡ set rooms.from n room.place

sizes_left : (left : ℕ) (is : List Item) → left ≤ 1023 → All IsSize is → All IsSize (left_over left is)
sizes_left zero is most h = h
sizes_left (suc left) is most h = All-cons IsSize (space (suc left)) is (omega arith, most) h

placed_in : (rooms mid new : Rooms) (room : EntryRoom) (n next : ℕ) (f : Fid) (name : List ℕ) (is js : List Item) (r : Room) → FillsRoom rooms mid new room n next → HasRooms rooms is → item_words (entry f name) ≡ n
    → find_room n is ≡ Some r → room.place ≡ r.place → room.total ≡ r.total → IsPlacedIn r (entry f name) is js → HasRooms new js
placed_in rooms mid new room n next f name is js r d has size found place total p =
    let e : Item = entry f name in
    let old : List Item = p.before ++ (p.free ++ p.behind) in
    let left : ℕ = room.total - n in
    let then : List Item = p.before ++ e ∷ left_over left p.behind in
    let sizes : All IsSize old = subst (All IsSize) p.old_are has.sizes in
    let before = all_left IsSize p.before (p.free ++ p.behind) sizes in
    let behind = all_right IsSize p.free p.behind (all_right IsSize p.before (p.free ++ p.behind) sizes) in
    let few : all_words old < 4294967296 = subst (λ l. all_words l < 4294967296) p.old_are has.few in
    let short : room.total ≤ 1023 = let h = room_short n is r found in omega arith in
    let here : room.place ≡ all_words p.before = place ∙ p.place in
    let many : room.total ≡ all_words p.free = total ∙ p.total in
    let fits = d.fits in
    let least = d.least in
    let all_old : all_words old ≡ all_words p.before + all_words (p.free ++ p.behind) = all_words-append p.before (p.free ++ p.behind) in
    let all_rest : all_words (p.free ++ p.behind) ≡ all_words p.free + all_words p.behind = all_words-append p.free p.behind in
    let all_then : all_words then ≡ all_words p.before + (item_words e + all_words (left_over left p.behind)) = all_words-append p.before (e ∷ left_over left p.behind) in
    let all_left_over = left_words left p.behind in
    let all_first : all_words (p.before ++ e ∷ []) ≡ all_words p.before + (item_words e + 0) = all_words-append p.before (e ∷ []) in
    let same : all_words is ≡ all_words old = ap all_words p.old_are in
    let end = has.end_is in
    let end_now = d.end_is in
    let next_is = d.next_is in
    let was_few = has.few in
    let row : IsRow room p.before p.free p.behind = record { free = p.are_free; sizes = sizes; few = few; place = here; total = many; short = short } in
    let out = d.out p.before p.free p.behind row (has.free ∙ ap (free_slots 0) p.old_are) in
    let after : room.place + room.total ≡ next + left = omega arith in
    let first : free_slots 0 (p.before ++ e ∷ []) ≡ free_slots 0 p.before = free_append 0 p.before (e ∷ []) ∙ append-nil (free_slots 0 p.before) in
    let kept = d.kept (p.before ++ e ∷ []) p.behind (All-append IsSize p.before (e ∷ []) before (All-cons IsSize e [] tt (All-nil IsSize))) (omega arith)
    (out ∙ ap (λ k. free_slots 0 p.before ++ free_slots k p.behind) after ∙ ap (λ l. l ++ free_slots (next + left) p.behind) (sym first)) in
    let words : r.total - item_words e ≡ left = omega arith in
    let passed : (m : ℕ) → m ≤ 26 → IsPassedOver m (get_or new.from m 0) then = λ m most. elim (cases_eq m n) [
      | inl is_n ↦
          let at : get_or new.from m 0 ≡ room.place = ap (λ l. get_or l m 0) d.from ∙ ap (λ k. get_or (set rooms.from n room.place) k 0) is_n ∙ get_or-set_same rooms.from n room.place 0 (let lengths = has.lengths in let few = d.most in omega arith) in
          record {
            before = p.before;
            rest = e ∷ left_over left p.behind;
            split = refl;
            place = sym here ∙ sym at;
            few = λ some. subst (λ k. largest_run p.before < k) (sym is_n) (few_before n p.before (p.free ++ p.behind) r least d.most before (sym (ap (find_room n) p.old_are) ∙ found) p.first);
            apart = inr tt;
          }
      | inr other ↦
          let at : get_or new.from m 0 ≡ get_or rooms.from m 0 = ap (λ l. get_or l m 0) d.from ∙ get_or-set_other rooms.from n m room.place 0 other in
          subst (λ k. IsPassedOver m k then) (sym at)
          (passed_filled m (get_or rooms.from m 0) p.before p.free p.behind f name left (record { free = p.are_free; some = omega arith; words = omega arith })
          (subst (IsPassedOver m (get_or rooms.from m 0)) p.old_are (has.passed m most)))
    ] in
    subst (HasRooms new) (sym (p.new_are ∙ ap (λ w. p.before ++ e ∷ left_over w p.behind) words)) (record {
      free = kept ∙ ap (free_slots 0) (append_assoc p.before (e ∷ []) (left_over left p.behind));
      end_is = omega arith;
      few = omega arith;
      sizes = All-append IsSize p.before (e ∷ left_over left p.behind) before (All-cons IsSize e (left_over left p.behind) tt (sizes_left left p.behind (omega arith) behind));
      lengths = ap length d.from ∙ length-set rooms.from n room.place ∙ has.lengths;
      passed = passed;
    })

pub room_filled : (rooms mid new : Rooms) (room : EntryRoom) (n next : ℕ) (f : Fid) (name : List ℕ) (is : List Item) → FillsRoom rooms mid new room n next → HasRooms rooms is → item_words (entry f name) ≡ n → IsFirstRoom n is room
    → HasRooms new (items_entered (entry f name) is)
room_filled rooms mid new room n next f name is d has size first = by (placed (entry f name) is) refl
  where
    found : find_room (item_words (entry f name)) is ≡ Some first.found
    found = ap (λ w. find_room w is) size ∙ first.first

    by : (o : Option (List Item)) → placed (entry f name) is ≡ o → HasRooms new (unwrap_or o is)
    by None e = let none : find_room (item_words (entry f name)) is ≡ None = (found_is_placed (entry f name) is).neither.1 e in absurd (let h : Some first.found ≡ None = sym found ∙ none in cc)
    by (Some js) e = placed_in rooms mid new room n next f name is js first.found d has size first.first first.place first.total ((found_is_placed (entry f name) is).both first.found js found e)
