-- Room for an entry, by the slots of a directory that are met one at a time.
use Rattle.std.specs.Prelude.{All, List, None, Some, [], fold, length, max, ℕ, ◌++◌, ◌+◌, ◌<◌, ◌∷◌, ◌≡◌, ◌≢◌, ◌≤◌, ◌↔◌}
use Rattle.laws_hint.specs.laws_record.specs.SlotLaws.{IsSpace}
use Rattle.laws_hint.specs.pack_model.specs.operations.Rooms.{Room, find_room, largest_run, most_free, room_from}
use Rattle.laws_hint.specs.pack_model.specs.reading.Slots.Item.{entry, space}
use Rattle.laws_hint.specs.pack_model.specs.reading.Slots.{Item, all_words, item_words}

-- ---- the most free words in a row
-- the words of the row that ends with this slot, by those of the row that ends before it
abbrev pub row_words : ℕ → Item → ℕ
row_words row (space n) = row + n
row_words row (entry f name) = 0

-- the free words at the end of these slots
abbrev pub words_at_end : List Item → ℕ
words_at_end is = fold row_words 0 is

-- once one more slot is met the most free words are those of before, or those of the row that ends with it
abbrev pub MostWordsGoOn : Type 0
MostWordsGoOn = (is : List Item) (i : Item) → largest_run (is ++ i ∷ []) ≡ max (largest_run is) (row_words (words_at_end is) i)

-- ---- the room
-- a room that was found stays, whatever slots follow
abbrev pub FoundRoomStays : Type 0
FoundRoomStays = (n : ℕ) (is more : List Item) (r : Room) → find_room n is ≡ Some r → find_room n (is ++ more) ≡ Some r

-- these slots, of which i is the first, end with an entry
abbrev pub EndsWithEntry : Item → List Item → Type 0
EndsWithEntry (space n) [] = ⊥
EndsWithEntry (entry f name) [] = Unit {0}
EndsWithEntry i (j ∷ is) = EndsWithEntry j is

-- a row begins after these slots: there are none, or the last is an entry
abbrev pub RowBegins : List Item → Type 0
RowBegins [] = Unit {0}
RowBegins (i ∷ is) = EndsWithEntry i is

-- where none was found, the row at the end and the slots that follow decide: no slot before the row has to be kept
abbrev pub RoomGoesOn : Type 0
RoomGoesOn = (n : ℕ) (before row more : List Item) → RowBegins before → find_room n (before ++ row) ≡ None → find_room n (before ++ (row ++ more)) ≡ room_from n (length before) (all_words before) (row ++ more)

-- slots that are no longer than a free slot can be
abbrev pub AreShort : List Item → Type 0
AreShort is = All (λ i. item_words i ≤ most_free) is

-- and that row has fewer words than are asked for, so that it has fewer slots too
abbrev pub RowIsShort : Type 0
RowIsShort = (n : ℕ) (before row : List Item) → 1 ≤ n → n ≤ 512 → AreShort (before ++ row) → All IsSpace row → find_room n (before ++ row) ≡ None → all_words row < n

-- a room for 1 to 512 words is found if and only if so many are free in a row: no entry is longer
abbrev pub RoomIsFoundInARun : Type 0
RoomIsFoundInARun = (n : ℕ) (is : List Item) → 1 ≤ n → n ≤ 512 → AreShort is → (find_room n is ≢ None) ↔ (n ≤ largest_run is)
