-- A row of free slots without its first ones, until it has few enough words for one free slot.
use Rattle.std.proofs.Common.{◌≡◌, ℕ, suc, ◌+◌, ◌-◌, ◌<◌, ◌≤◌, List, ◌∷◌, ◌++◌, length, drop, get_or, Some, refl, ap, ◌∙◌, subst, arith, min}
use Rattle.std.proofs.lemmas.List.{drop_all}
use Rattle.pack_model.specs.reading.Slots.{Item, item_words, all_words}
use Rattle.pack_model.specs.reading.Slots.Item.{space, entry}
use Rattle.pack_model.specs.operations.Rooms.{room_from}
use Rattle.dir_slots.specs.declared.slot.Slot.{Slot}
use Rattle.dir_slots.specs.declared.room.Room.{Room}
use Rattle.dir_slots.specs.Items.{item_of, items_of, room_of}
use Rattle.dir_slots.specs.Inside.{AreFree}
use Rattle.dir_slots.proofs.Rooms.{run-row, room_from-here, room_from-later}
use Rattle.dir_slots.proofs.Runs.{rest_more}

-- ---- a row without its first slots
free_rest : (i : Item) (is : List Item) → AreFree (i ∷ is) → AreFree is
free_rest (space n) is h = h
free_rest (entry f name) is h = absurd h

-- the slots of a room but the last, and that room without the first of them
pub record Shortening (row : List Slot) (whole room : Room) (at : ℕ) : Type 0 where
  pub free : AreFree (items_of (drop at row))
  pub less : all_words (items_of (drop at row)) ≤ all_words (items_of row)
  pub total : room.total + all_words (items_of row) ≡ whole.total + all_words (items_of (drop at row))
  pub first : room.first ≡ whole.first + at
  pub place : room.place + all_words (items_of (drop at row)) ≡ whole.place + all_words (items_of row)
  pub many : min 26 whole.total ≤ room.total
  pub same : (n last : ℕ) (rest : List Item) → n ≤ 26 → all_words (items_of row) < n → n ≤ whole.total → all_words (items_of row) + last ≡ whole.total
      → room_from n whole.first whole.place (items_of row ++ space last ∷ rest) ≡ room_from n room.first room.place (items_of (drop at row) ++ space last ∷ rest)

pub shortening_none : (row : List Slot) (whole : Room) → AreFree (items_of row) → Shortening row whole whole 0
shortening_none row whole free = record {
  free = free;
  less = omega arith;
  total = refl;
  first = omega arith;
  place = refl;
  many = omega arith;
  same = λ n last rest most few many all. refl;
}

pub shortening_more : (row : List Slot) (whole room : Room) (at : ℕ) (s : Slot) → at < length row → s ≡ get_or row at s → all_words (items_of row) < 26 → 1023 < room.total → Shortening row whole room at
    → Shortening row whole (record { first = room.first + 1; place = room.place + item_words (item_of s); total = room.total - item_words (item_of s) }) (at + 1)
shortening_more row whole room at s lt is short long r =
    let i : Item = item_of s in
    let later : List Item = items_of (drop (at + 1) row) in
    let split : items_of (drop at row) ≡ i ∷ later = rest_more row at s lt is in
    let words : all_words (items_of (drop at row)) ≡ item_words i + all_words later = ap all_words split in
    let free : AreFree (i ∷ later) = subst AreFree split r.free in
    let less = r.less in
    let total = r.total in
    let first = r.first in
    let place = r.place in
    let least = r.many in
    record {
      free = free_rest i later free;
      less = omega arith;
      total = omega arith;
      first = omega arith;
      place = omega arith;
      many = omega arith;
      same = λ n last rest most few many all.
          let found = run-row n last (i ∷ later) rest free (omega arith) (omega arith) in
          let next : suc room.first ≡ room.first + 1 = omega arith in
          r.same n last rest most few many all
          ∙ (λ j. room_from n room.first room.place (split j ++ space last ∷ rest))
          ∙ room_from-later n room.first room.place (all_words (i ∷ later) + last) i (later ++ space last ∷ rest) rest found (omega arith)
          ∙ (λ j. room_from n (next j) (room.place + item_words i) (later ++ space last ∷ rest));
    }

-- what is found in a row that is long enough, whatever follows it
abbrev pub Shortened : List Slot → Room → Room → Type 0
Shortened row whole room = (n last : ℕ) (rest : List Item) → n ≤ 26 → all_words (items_of row) < n → n ≤ whole.total → all_words (items_of row) + last ≡ whole.total
    → room_from n whole.first whole.place (items_of row ++ space last ∷ rest) ≡ Some (room_of room)

pub shortened_here : (row : List Slot) (whole room : Room) (at : ℕ) → room.total ≤ 1023 → Shortening row whole room at → Shortened row whole room
shortened_here row whole room at short r = λ n last rest most few many all.
    let kept : List Item = items_of (drop at row) in
    let less = r.less in
    let total = r.total in
    let least = r.many in
    let sum : all_words kept + last ≡ room.total = omega arith in
    r.same n last rest most few many all
    ∙ room_from-here n room.first room.place room.total (kept ++ space last ∷ rest) rest
    (run-row n last kept rest r.free (omega arith) (omega arith) ∙ ap (λ t. Some (t, rest)) sum) short

pub shortened_all : (row : List Slot) (whole room : Room) (at : ℕ) → length row ≤ at → whole.total ≤ all_words (items_of row) + 1023 → Shortening row whole room at → Shortened row whole room
shortened_all row whole room at past most r =
    let none : all_words (items_of (drop at row)) ≡ 0 = ap (λ l. all_words (items_of l)) (drop_all at row past) in
    let total = r.total in
    shortened_here row whole room at (omega arith) r
