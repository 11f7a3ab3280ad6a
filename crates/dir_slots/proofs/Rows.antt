-- The rows of free slots that a search for room goes through.
use Rattle.std.proofs.Common.{◌≡◌, ℕ, suc, ◌+◌, ◌-◌, ◌^◌, ◌<◌, ◌≤◌, List, [], ◌∷◌, ◌++◌, length, take, drop, get_or, Some, None, refl, sym, ap, ◌∙◌, subst, arith}
use Rattle.std.specs.Prelude.{All}
use Rattle.std.proofs.lemmas.List.{length-take, length-drop, length-map, map-append, map_push, take_more, take-append-drop, drop-drop, drop_all, get_or-drop}
use Rattle.std.proofs.lemmas.List.Elements.{All-get_or}
use Rattle.pack_model.specs.reading.Slots.{Item, item_words, all_words, entry_length}
use Rattle.pack_model.specs.reading.Slots.Item.{space, entry}
use Rattle.pack_model.specs.operations.Rooms.{run, room_from, find_room}
use Rattle.dir_slots.specs.declared.slot.Slot.{Slot}
use Rattle.dir_slots.specs.declared.slot.Slot.TheVariants.{Free, Entry}
use Rattle.dir_slots.specs.declared.room.Room.{Room}
use Rattle.dir_slots.specs.Items.{item_of, items_of, HasFreeLength, room_of}
use Rattle.dir_slots.specs.Inside.{AreFree, row_after}
use Rattle.dir_slots.proofs.Slots.{all_words-append}
use Rattle.dir_slots.proofs.Rooms.{room_from-none, few_slots}
use Rattle.dir_slots.proofs.Runs.{rest_more, take_words, words_within}
use Rattle.dir_slots.proofs.Shortening.{Shortened}

-- ---- the row that ends before a slot
abbrev pub row_items : List Slot → ℕ → ℕ → List Item
row_items slots first at = items_of (take (at - first) (drop first slots))

row_split : (slots : List Slot) (first at : ℕ) → first ≤ at → items_of (drop first slots) ≡ row_items slots first at ++ items_of (drop at slots)
row_split slots first at within =
    let whole : first + (at - first) ≡ at = omega arith in
    sym (ap items_of (take-append-drop (at - first) (drop first slots)))
    ∙ map-append item_of (take (at - first) (drop first slots)) (drop (at - first) (drop first slots))
    ∙ ap (λ l. row_items slots first at ++ items_of l) (drop-drop (at - first) first slots ∙ ap (λ m. drop m slots) whole)

row_push : (slots : List Slot) (first at : ℕ) (s : Slot) → first ≤ at → at < length slots → s ≡ get_or slots at s → row_items slots first (at + 1) ≡ row_items slots first at ++ item_of s ∷ []
row_push slots first at s within lt is =
    let long : length (drop first slots) ≡ length slots - first = length-drop first slots in
    let more : at + 1 - first ≡ at - first + 1 = omega arith in
    let whole : first + (at - first) ≡ at = omega arith in
    let here : get_or (drop first slots) (at - first) s ≡ s = get_or-drop first slots (at - first) s ∙ ap (λ k. get_or slots k s) whole ∙ sym is in
    ap (λ m. items_of (take m (drop first slots))) more
    ∙ ap items_of (take_more (drop first slots) (at - first) s (omega arith) ∙ ap (λ x. take (at - first) (drop first slots) ++ x ∷ []) here)
    ∙ map_push item_of (take (at - first) (drop first slots)) s

row_none : (slots : List Slot) (at : ℕ) → row_items slots at at ≡ []
row_none slots at = let none : at - at ≡ 0 = omega arith in ap (λ m. items_of (take m (drop at slots))) none

length-row : (slots : List Slot) (first at : ℕ) → at ≤ length slots → length (take (at - first) (drop first slots)) ≡ at - first
length-row slots first at within =
    let taken = length-take (at - first) (drop first slots) in
    let long : length (drop first slots) ≡ length slots - first = length-drop first slots in
    omega arith

free_push : (row : List Item) (n : ℕ) → AreFree row → AreFree (row ++ space n ∷ [])
free_push [] n h = tt
free_push (space k ∷ row) n h = free_push row n h
free_push (entry f name ∷ row) n h = absurd h

words_push : (row : List Item) (n : ℕ) → all_words (row ++ space n ∷ []) ≡ all_words row + n
words_push row n = let e = all_words-append row (space n ∷ []) in omega arith

-- The slots before this one have no room for so many words, and the row is that of the free ones that end before it.
pub record Searching (n : ℕ) (slots : List Slot) (row : Room) (at : ℕ) : Type 0 where
  pub from : row.first ≤ at
  pub free : AreFree (row_items slots row.first at)
  pub total : row.total ≡ all_words (row_items slots row.first at)
  pub few : row.total < n
  pub place : row.place + row.total ≡ all_words (items_of (take at slots))
  pub same : room_from n row.first row.place (items_of (drop row.first slots)) ≡ find_room n (items_of slots)

pub searching_none : (n : ℕ) (slots : List Slot) → 1 ≤ n → Searching n slots (record { first = 0; place = 0; total = 0 }) 0
searching_none n slots some = record {
  from = omega arith;
  free = tt;
  total = refl;
  few = omega arith;
  place = refl;
  same = refl;
}

-- after the row, and after slots with no row at their head
after_row : (n : ℕ) (slots : List Slot) (row : Room) (at : ℕ) → at ≤ length slots → ((m : ℕ) → run m (items_of (drop at slots)) ≡ None) → Searching n slots row at
    → room_from n (row.first + (at - row.first)) (row.place + row.total) (items_of (drop at slots)) ≡ find_room n (items_of slots)
after_row n slots row at within none r =
    let items : List Item = row_items slots row.first at in
    let few = r.few in
    let total = r.total in
    let long : length items ≡ at - row.first = length-map (take (at - row.first) (drop row.first slots)) item_of ∙ length-row slots row.first at within in
    sym (λ i. room_from n (row.first + long i) (row.place + sym total i) (items_of (drop at slots)))
    ∙ sym (room_from-none n row.first row.place items (items_of (drop at slots)) r.free (omega arith) none)
    ∙ ap (room_from n row.first row.place) (sym (row_split slots row.first at r.from)) ∙ r.same

pub searching_more : (n : ℕ) (slots : List Slot) (row : Room) (at : ℕ) (s : Slot) → at < length slots → s ≡ get_or slots at s → Searching n slots row at → (row_after row at (item_of s)).total < n → Searching n slots (row_after row at (item_of s)) (at + 1)
searching_more n slots row at (Free k) lt is r few =
    let from = r.from in
    let total = r.total in
    let place = r.place in
    let words = take_words slots at (Free k) lt is in
    let push = row_push slots row.first at (Free k) from lt is in
    let sum = ap all_words push ∙ words_push (row_items slots row.first at) k in
    record {
      from = omega arith;
      free = subst AreFree (sym push) (free_push (row_items slots row.first at) k r.free);
      total = omega arith;
      few = few;
      place = omega arith;
      same = r.same;
    }
searching_more n slots row at (Entry f a name) lt is r few =
    let from = r.from in
    let place = r.place in
    let words = take_words slots at (Entry f a name) lt is in
    let none = row_none slots (at + 1) in
    let split : items_of (drop at slots) ≡ entry f name ∷ items_of (drop (at + 1) slots) = rest_more slots at (Entry f a name) lt is in
    let next : suc (row.first + (at - row.first)) ≡ at + 1 = omega arith in
    record {
      from = omega arith;
      free = subst AreFree (sym none) tt;
      total = sym (ap all_words none);
      few = few;
      place = omega arith;
      same =
          sym (λ i. room_from n (next i) (row.place + row.total + entry_length (length name)) (items_of (drop (at + 1) slots)))
          ∙ ap (room_from n (row.first + (at - row.first)) (row.place + row.total)) (sym split)
          ∙ after_row n slots row at (omega arith) (λ m. ap (run m) split) r;
    }

-- with no slot left there is no room
pub searching_all : (n : ℕ) (slots : List Slot) (row : Room) (at : ℕ) → length slots ≡ at → Searching n slots row at → find_room n (items_of slots) ≡ None
searching_all n slots row at all r =
    let none : items_of (drop at slots) ≡ [] = ap items_of (drop_all at slots (omega arith)) in
    sym (after_row n slots row at (omega arith) (λ m. ap (run m) none) r)
    ∙ ap (room_from n (row.first + (at - row.first)) (row.place + row.total)) none

-- ---- the row reaches so many words
pub record Reached (slots : List Slot) (n : ℕ) (row : Room) (at : ℕ) : Type 0 where
  pub from : row.first ≤ at
  pub free : AreFree (row_items slots row.first at)
  pub few : all_words (row_items slots row.first at) < n
  pub least : all_words (row_items slots row.first at) ≤ row.total
  pub most : row.total ≤ all_words (row_items slots row.first at) + 1023
  pub slots_fit : row.first + length (take (at - row.first) (drop row.first slots)) ≤ at
  pub place_fits : row.place + all_words (row_items slots row.first at) ≤ all_words (items_of slots)
  pub found : (room : Room) → Shortened (take (at - row.first) (drop row.first slots)) row room → find_room n (items_of slots) ≡ Some (room_of room)

pub reached : (n : ℕ) (slots : List Slot) (row : Room) (at : ℕ) (s : Slot) → n ≤ 26 → at < length slots → s ≡ get_or slots at s → HasFreeLength s → Searching n slots row at → n ≤ (row_after row at (item_of s)).total → 1 ≤ n
    → Reached slots n (row_after row at (item_of s)) at
reached n slots row at (Free k) most lt is own r many some =
    let from = r.from in
    let total = r.total in
    let few = r.few in
    let place = r.place in
    let upper = own.1 in
    let within = words_within slots at in
    let long = length-row slots row.first at (omega arith) in
    let split : items_of (drop row.first slots) ≡ row_items slots row.first at ++ space k ∷ items_of (drop (at + 1) slots) =
    row_split slots row.first at from ∙ ap (λ l. row_items slots row.first at ++ l) (rest_more slots at (Free k) lt is) in
    record {
      from = from;
      free = r.free;
      few = omega arith;
      least = omega arith;
      most = omega arith;
      slots_fit = omega arith;
      place_fits = omega arith;
      found = λ room short. sym r.same ∙ ap (room_from n row.first row.place) split ∙ short n k (items_of (drop (at + 1) slots)) most (omega arith) many (omega arith);
    }
reached n slots row at (Entry f a name) most lt is own r many some = absurd (omega arith)

-- ---- the search by its code's names
-- a slot of the list is as each of them is
own_length : (slots : List Slot) (at : ℕ) (s : Slot) → at < length slots → s ≡ get_or slots at s → All HasFreeLength slots → HasFreeLength s
own_length slots at s lt is free = subst HasFreeLength (sym is) (All-get_or HasFreeLength slots at s lt free)

-- the next slot fits
pub record NextFits (slots : List Slot) (row : Room) (at : ℕ) (s : Slot) : Type 0 where
  pub slots_fit : at + 1 < 2 ^ 32
  pub place_fits : row.place + row.total + item_words (item_of s) < 2 ^ 32
  pub few : row.total ≤ 26
  pub free : HasFreeLength s

pub next_fits : (n : ℕ) (slots : List Slot) (row : Room) (at : ℕ) (s : Slot) → at < length slots → s ≡ get_or slots at s → n ≤ 26 → All HasFreeLength slots → all_words (items_of slots) < 2 ^ 32
    → Searching n slots row at → NextFits slots row at s
next_fits n slots row at s lt is most free all r =
    let many = few_slots slots free in
    let words = take_words slots at s lt is in
    let within = words_within slots (at + 1) in
    let place = r.place in
    let few = r.few in
    record {
      slots_fit = omega arith;
      place_fits = omega arith;
      few = omega arith;
      free = own_length slots at s lt is free;
    }

pub searching_next : (n : ℕ) (slots : List Slot) (row next : Room) (at : ℕ) (s : Slot) → next ≡ row_after row at (item_of s) → at < length slots → s ≡ get_or slots at s → Searching n slots row at → next.total < n → Searching n slots next (at + 1)
searching_next n slots row next at s e lt is r few =
    subst (λ x. Searching n slots x (at + 1)) (sym e) (searching_more n slots row at s lt is r (subst (λ x. x.total < n) e few))

pub reached_next : (n : ℕ) (slots : List Slot) (row next : Room) (at : ℕ) (s : Slot) → next ≡ row_after row at (item_of s) → at < length slots → s ≡ get_or slots at s → 1 ≤ n → n ≤ 26 → All HasFreeLength slots → Searching n slots row at → n ≤ next.total
    → Reached slots n next at
reached_next n slots row next at s e lt is some most free r many =
    subst (λ x. Reached slots n x at) (sym e) (reached n slots row at s most lt is (own_length slots at s lt is free) r (subst (λ x. n ≤ x.total) e many) some)
