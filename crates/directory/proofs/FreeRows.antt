-- Room in a row of free slots that has too few words without the last of them, and in a row further on.
use Rattle.std.proofs.Common.{◌≡◌, ℕ, zero, suc, ◌+◌, ◌<◌, ◌≤◌, Bool, true, false, cond, List, [], ◌∷◌, ◌++◌, length, take, set, get_or, None, Option, Some, refl, sym, ◌∙◌, ap, subst, arith, inl, inr}
use Rattle.std.specs.Option.{option_map, option_or}
use Rattle.std.specs.Prelude.{All, nat_le}
use Rattle.std.proofs.lemmas.Bool.{cases_lt}
use Rattle.std.proofs.lemmas.List.{length-append, length-map, length-take, map_push, take_more_set}
use Rattle.std.proofs.lemmas.List.Elements.{All-push}
use Rattle.dir_slots.proofs.Rooms.{few_slots, room_from-here, room_from-later, run-row, some_found, words_free-within}
use Rattle.dir_slots.proofs.Slots.{all_words-append}
use Rattle.dir_slots.specs.Inside.{AreFree}
use Rattle.dir_slots.specs.Items.{HasFreeLength, item_of, items_of}
use Rattle.dir_slots.specs.declared.slot.Slot.TheVariants.{Entry, Free}
use Rattle.dir_slots.specs.declared.slot.Slot.{Slot}
use Rattle.pack_model.specs.operations.Rooms.{Room, find_room, largest_run, most_free, room_from, room_here, run, words_free}
use Rattle.pack_model.specs.reading.Slots.Item.{entry, space}
use Rattle.pack_model.specs.reading.Slots.{Item, all_words, item_words}
use Rattle.directory.specs.declared.free_row.RoomWords.{RoomWords}
use Rattle.directory.specs.FoundRooms.{IsRoomIn}
use Rattle.directory.specs.FreeRows.{IsShortRow}
use Rattle.directory.proofs.RoomSizes.{no_room, one_room, room_sized}
use Rattle.directory.proofs.Rows.{run_within}

pub words_push : (row : List Item) (k : ℕ) → all_words (row ++ space k ∷ []) ≡ all_words row + k
words_push row k = let sum = all_words-append row (space k ∷ []) in omega (arith, sum)

-- ---- a room ends with the last slot
-- It has its slots among these, and ends with them.
pub record EndsAt (first place count words : ℕ) (r : Room) : Type 0 where
  pub within : r.first < first + count
  pub ends : r.place + r.total ≡ place + words

-- a room that is found among them has as many words as are asked for, so that they have
reaches : (n first place k : ℕ) (row : List Item) (r : Room) → room_from n first place (row ++ space k ∷ []) ≡ Some r → n ≤ all_words row + k
reaches n first place k row r found =
    let many = some_found n first place (row ++ space k ∷ []) r found in
    let within = run_within (row ++ space k ∷ []) in
    let words = words_push row k in
    omega (arith, many, within, words)

-- it begins with the first of them
starts : (n first place k : ℕ) (row : List Item) (r : Room) → room_from n first place (row ++ space k ∷ []) ≡ Some r → room_from n first place (row ++ space k ∷ []) ≡ Some (record { first = first; place = place; total = all_words row + k }) → EndsAt first place (length row + 1) (all_words row + k) r
starts n first place k row r found here =
    let same = one_room r (record { first = first; place = place; total = all_words row + k }) (sym found ∙ here) in
    let f : r.first ≡ first = ap (λ (x : Room). x.first) same in
    let p : r.place ≡ place = ap (λ (x : Room). x.place) same in
    let t : r.total ≡ all_words row + k = ap (λ (x : Room). x.total) same in
    record { within = omega (arith, f); ends = omega (arith, p, t) }

pub row_ends : (n first place k : ℕ) (row : List Item) (r : Room) → AreFree row → all_words row < n → room_from n first place (row ++ space k ∷ []) ≡ Some r → EndsAt first place (length row + 1) (all_words row + k) r
row_ends n first place k [] r free few found =
    let many = reaches n first place k [] r found in
    let all : run n (space k ∷ []) ≡ Some (0 + k, []) = run-row n k [] [] tt few many in
    elim (cases_lt 1023 (0 + k)) [
      | inl long ↦ absurd (no_room r (sym (room_from-later n first place (0 + k) (space k) [] [] all long) ∙ found))
      | inr short ↦ starts n first place k [] r found (room_from-here n first place (0 + k) (space k ∷ []) [] all short)
    ]
row_ends n first place k (space j ∷ row) r free few found =
    let many = reaches n first place k (space j ∷ row) r found in
    let all : run n (space j ∷ (row ++ space k ∷ [])) ≡ Some (j + all_words row + k, []) = run-row n k (space j ∷ row) [] free few many in
    elim (cases_lt 1023 (j + all_words row + k)) [
      | inl long ↦
          let later = row_ends n (suc first) (place + j) k row r free (omega (arith, few)) (sym (room_from-later n first place (j + all_words row + k) (space j) (row ++ space k ∷ []) [] all long) ∙ found) in
          let w = later.within in
          let e = later.ends in
          record { within = omega (arith, w); ends = omega (arith, e) }
      | inr short ↦ starts n first place k (space j ∷ row) r found (room_from-here n first place (j + all_words row + k) (space j ∷ (row ++ space k ∷ [])) [] all short)
    ]
row_ends n first place k (entry f name ∷ row) r free few found = absurd free

-- ---- a room further on
abbrev pub further : ℕ → ℕ → Room → Room
further first place r = record { first = first + r.first; place = place + r.place; total = r.total }

tried_further : (first place f p : ℕ) (t : Bool) (total : ℕ) → cond {A = Option Room} t (Some (record { first = first + f; place = place + p; total = total })) None ≡ option_map (further first place) (cond t (Some (record { first = f; place = p; total = total })) None)
tried_further first place f p true total = refl
tried_further first place f p false total = refl

here_further : (first place f p : ℕ) (q : Option (ℕ × List Item)) → room_here (first + f) (place + p) q ≡ option_map (further first place) (room_here f p q)
here_further first place f p None = refl
here_further first place f p (Some q) = tried_further first place f p (nat_le q.0 most_free) q.0

either_further : (g : Room → Room) (a b : Option Room) → option_or (option_map g a) (option_map g b) ≡ option_map g (option_or a b)
either_further g None b = refl
either_further g (Some x) b = refl

from_further : (n first place f p : ℕ) (is : List Item) → room_from n (first + f) (place + p) is ≡ option_map (further first place) (room_from n f p is)
from_further n first place f p [] = refl
from_further n first place f p (i ∷ is) =
    let a : suc (first + f) ≡ first + suc f = omega arith in
    let b : place + p + item_words i ≡ place + (p + item_words i) = omega arith in
    ap (λ x. option_or x (room_from n (suc (first + f)) (place + p + item_words i) is)) (here_further first place f p (run n (i ∷ is)))
    ∙ ap (option_or (option_map (further first place) (room_here f p (run n (i ∷ is))))) ((λ z. room_from n (a z) (b z) is) ∙ from_further n first place (suc f) (p + item_words i) is)
    ∙ either_further (further first place) (room_here f p (run n (i ∷ is))) (room_from n (suc f) (p + item_words i) is)

pub room_further : (n first place : ℕ) (is : List Item) → room_from n first place is ≡ option_map (further first place) (find_room n is)
room_further n first place is =
    let a : first ≡ first + 0 = omega arith in
    let b : place ≡ place + 0 = omega arith in
    (λ z. room_from n (a z) (b z) is) ∙ from_further n first place 0 0 is

-- ---- one free slot more in a row that is kept
free_push : (row : List Slot) (w : ℕ) → AreFree (items_of row) → AreFree (items_of (row ++ Free w ∷ []))
free_push [] w h = tt
free_push (Free k ∷ row) w h = free_push row w h
free_push (Entry f a name ∷ row) w h = absurd h

all_free : (is : List Item) → AreFree is → all_words is ≤ words_free is
all_free [] h = omega arith
all_free (space k ∷ is) h = let rest = all_free is h in omega (arith, rest)
all_free (entry f name ∷ is) h = absurd h

-- a slot of a row, as an item
pub item_there : (row : List Slot) (i : ℕ) (s : Slot) → i < length row → s ≡ get_or row i s → item_of s ≡ get_or (items_of row) i (space 0)
item_there [] i s less is = absurd (omega (arith, less))
item_there (x ∷ row) zero s less is = ap item_of is
item_there (x ∷ row) (suc i) s less is = item_there row i s (omega (arith, less)) is

module _ (slots : List Slot) (k w : ℕ) (there : k < length slots) where
  pub row_taken : take (k + 1) (set slots k (Free w)) ≡ take k slots ++ Free w ∷ []
  row_taken = take_more_set slots k (Free w) there

  pub items_taken : items_of (take (k + 1) (set slots k (Free w))) ≡ items_of (take k slots) ++ space w ∷ []
  items_taken = ap items_of row_taken ∙ map_push item_of (take k slots) (Free w)

  pub words_taken : all_words (items_of (take (k + 1) (set slots k (Free w)))) ≡ all_words (items_of (take k slots)) + w
  words_taken = ap all_words items_taken ∙ words_push (items_of (take k slots)) w

  module _ (needed : ℕ) (row : IsShortRow needed k (take k slots)) where
    -- the room that it has then
    pub room_taken : (room : Room) (words : RoomWords) (s : Slot) → find_room needed (items_of (take (k + 1) (set slots k (Free w)))) ≡ Some room → words.total ≡ room.total → words.first ≡ item_words (item_of s)
        → s ≡ get_or (take (k + 1) (set slots k (Free w))) room.first s → IsRoomIn needed (items_of (take k slots) ++ space w ∷ []) words
    room_taken room words s found total first is =
        let here : find_room needed (items_of (take k slots) ++ space w ∷ []) ≡ Some room = ap (find_room needed) (sym items_taken) ∙ found in
        let ends = row_ends needed 0 0 w (items_of (take k slots)) room row.free row.few here in
        let end = ends.ends in
        let push = words_push (items_of (take k slots)) w in
        let within = (room_sized needed 0 0 (items_of (take (k + 1) (set slots k (Free w)))) room found).first in
        let size = length-map (take (k + 1) (set slots k (Free w))) item_of in
        record {
          room = room;
          found = here;
          ends = omega (arith, end, push);
          total = total;
          first = first ∙ ap item_words (item_there (take (k + 1) (set slots k (Free w))) room.first s (omega (arith, within, size)) is ∙ ap (λ l. get_or l room.first (space 0)) items_taken);
        }

    -- or the row that it is then
    pub row_goes_on : 1 ≤ w → w ≤ 1023 → largest_run (items_of (take (k + 1) (set slots k (Free w)))) < needed → IsShortRow needed (k + 1) (take (k + 1) (set slots k (Free w)))
    row_goes_on some most short =
        let size = length-take k slots in
        let push : length (take k slots ++ Free w ∷ []) ≡ length (take k slots) + 1 = length-append (take k slots) (Free w ∷ []) in
        let lengths : All HasFreeLength (take k slots ++ Free w ∷ []) = All-push HasFreeLength (take k slots) (Free w) row.lengths (some, most) in
        let free : AreFree (items_of (take k slots ++ Free w ∷ [])) = free_push (take k slots) w row.free in
        let many = few_slots (take k slots ++ Free w ∷ []) lengths in
        let alone = all_free (items_of (take k slots ++ Free w ∷ [])) free in
        let within = words_free-within (items_of (take k slots ++ Free w ∷ [])) in
        let less : largest_run (items_of (take k slots ++ Free w ∷ [])) < needed = subst (λ l. largest_run (items_of l) < needed) row_taken short in
        let most_needed = row.most in
        subst (IsShortRow needed (k + 1)) (sym row_taken) (record {
          least = row.least;
          most = row.most;
          count_is = omega (arith, size, push, many, alone, within, less, most_needed, there);
          lengths = lengths;
          free = free;
          few = omega (arith, alone, within, less);
        })
