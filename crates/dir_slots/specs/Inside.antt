-- What the steps of reading a slot answer, and of looking for room.
use Rattle.std.specs.Prelude.{◌≡◌, ℕ, ◌+◌, ◌-◌, ◌/◌, ◌%◌, ◌≤◌, ◌==◌, ◌&&◌, Bool, true, false, cond, List, [], ◌∷◌, length, take, drop, IfSome, Option, Some, None}
use Rattle.std.specs.List.{list_all}
use Rattle.alto_words.specs.Names.{is_bare_name, is_name_character, is_same_name, is_stored_name}
use Rattle.disk_records.specs.Words.{word}
use Rattle.pack_model.specs.reading.Bytes.{bytes_of}
use Rattle.pack_model.specs.reading.Slots.{Item, entry_length, first_length, is_entry, slot_at, slot_fid, slot_name}
use Rattle.pack_model.specs.reading.Slots.Item.{space, entry}
use Rattle.pack_model.specs.reading.SlotWords.{address_at}
use Rattle.dir_slots.specs.Items.{address_of, item_of}
use Rattle.dir_slots.specs.Others.{IsOther}
use Rattle.dir_slots.specs.Walks.{Walking}
use Rattle.dir_slots.specs.declared.others.Passing.{Passing}
use Rattle.dir_slots.specs.declared.room.Room.{Room}
use Rattle.dir_slots.specs.declared.slot.Slot.{Slot}

-- the characters that a byte with their number begins, and the bytes after them
abbrev pub counted_name : List ℕ → List ℕ
counted_name bytes = take (word bytes 0) (drop 1 bytes)

abbrev pub behind : List ℕ → List ℕ
behind bytes = drop (word bytes 0) (drop 1 bytes)

-- the name of these bytes: so many characters, a stored name, and 0 alone after it
unfoldable pub name_of : List ℕ → Option (List ℕ)
name_of bytes = cond (length (counted_name bytes) == word bytes 0 && is_stored_name (counted_name bytes) && list_all (λ b. b == 0) (behind bytes)) (Some (counted_name bytes)) None

-- these words, and no more, as the entry of a file
abbrev pub entry_of : List ℕ → Option Item
entry_of words = cond (is_entry words) (Some (entry (slot_fid words) (slot_name words))) None

-- ---- room
-- free slots alone
abbrev pub AreFree : List Item → Type 0
AreFree [] = Unit {0}
AreFree (space n ∷ is) = AreFree is
AreFree (entry f name ∷ is) = ⊥

-- the free slots in a row that end with the slot of this number, where those are known that end before it
abbrev pub row_after : Room → ℕ → Item → Room
row_after row at (space n) = record { first = row.first; place = row.place; total = row.total + n }
row_after row at (entry f name) = record { first = at + 1; place = row.place + row.total + entry_length (length name); total = 0 }

-- ---- slots that are passed over
-- both bytes of a word may stand in a bare name
abbrev pub is_pair : ℕ → Bool
is_pair w = is_name_character (w / 256) && is_name_character (w % 256)

-- a walk with no word in hand, so many words further on
abbrev pub further : Walking → ℕ → Walking
further walk n = record { place = walk.place + n; held = walk.held; front = walk.front; ended = walk.ended }

-- These words spell a bare name after its length.
pub record IsBareSpelled (words : List ℕ) : Type 0 where
  pub name : List ℕ
  pub named : name_of (bytes_of words) ≡ Some name
  pub bare : is_bare_name name ≡ true
  pub size : length words ≡ (length name + 2) / 2

-- These words, and no more, are the entry of a bare name.
pub record IsBareEntry (words : List ℕ) : Type 0 where
  pub is : is_entry words ≡ true
  pub bare : is_bare_name (slot_name words) ≡ true
  pub size : length words ≡ entry_length (word words 6 / 256)

-- and that name isn't this one, if there is one
pub record IsOtherEntry (name : Option (List ℕ)) (words : List ℕ) : Type 0 where
  pub entry : IsBareEntry words
  pub other : IfSome name (λ n. is_same_name (slot_name words) n ≡ false)

-- An entry has another name than this one, if there is one, where the low five bits of one of these bytes aren't such: of the high byte
-- of its last word, and of the two bytes of the word before it.
pub record TellsOthers (name : Option (List ℕ)) (last high low : ℕ) : Type 0 where
  pub at_last : (words : List ℕ) → length words ≡ entry_length (word words 6 / 256) → (word words (length words - 1) / 256 % 32 ≡ last → ⊥) → IfSome name (λ n. is_same_name (slot_name words) n ≡ false)
  pub at_high : (words : List ℕ) → length words ≡ entry_length (word words 6 / 256) → (word words (length words - 1 - 1) / 256 % 32 ≡ high → ⊥) → IfSome name (λ n. is_same_name (slot_name words) n ≡ false)
  pub at_low : (words : List ℕ) → length words ≡ entry_length (word words 6 / 256) → (word words (length words - 1 - 1) % 32 ≡ low → ⊥) → IfSome name (λ n. is_same_name (slot_name words) n ≡ false)

-- The first n of these words are a slot that a scan may pass over.
pub record IsOtherAt (passing : Passing) (words : List ℕ) (n : ℕ) : Type 0 where
  pub slot : Slot
  pub least : 1 ≤ n
  pub within : n ≤ length words
  pub states : first_length words ≡ n
  pub reads : Some (item_of slot) ≡ slot_at (take n words)
  pub address : address_of slot ≡ address_at (take n words) 0 (item_of slot)
  pub other : IsOther passing (item_of slot)
