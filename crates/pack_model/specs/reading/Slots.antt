-- A directory's words as slots, with no address in them.
-- A directory of names and full names is that of the SOSP 1979 paper; the layout of slots is this project's choice.
use Rattle.std.specs.Prelude.{◌≡◌, ℕ, zero, suc, ◌+◌, ◌-◌, ◌/◌, ◌%◌, ◌<◌, ◌≤◌, ◌==◌, ◌&&◌, Bool, cond, nat_le, List, [], ◌∷◌, ◌++◌, length, take, drop, Option, Some, None}
use Rattle.std.specs.List.{list_all}
use Rattle.disk_records.specs.alto_words.specs.declared.fid.Fid.{Fid}
use Rattle.disk_records.specs.alto_words.specs.Fid.{is_full_name}
use Rattle.disk_records.specs.alto_words.specs.Names.{is_stored_name}
use Rattle.disk_records.specs.Words.{word}
use Rattle.pack_model.specs.reading.Bytes.{bytes_of, words_of}

-- A slot: so many free words, or the entry of a file under a name.
pub data Item : Type 0 where
  space : ℕ → Item
  entry : Fid → List ℕ → Item

-- the words of an entry under a name of n characters
abbrev pub entry_length : ℕ → ℕ
entry_length n = 6 + (n + 2) / 2

-- the length of a slot in words
abbrev pub item_words : Item → ℕ
item_words (space n) = n
item_words (entry f name) = entry_length (length name)

-- the words of slots together
abbrev pub all_words : List Item → ℕ
all_words [] = 0
all_words (i ∷ is) = item_words i + all_words is

-- ---- the words of one slot
-- from word 6 on: a length byte, the characters, and where the sum is odd a byte 0
abbrev pub slot_bytes : List ℕ → List ℕ
slot_bytes words = bytes_of (drop 6 words)

-- the name in an entry's words, without its count
abbrev pub slot_name : List ℕ → List ℕ
slot_name words = take (word (slot_bytes words) 0) (drop 1 (slot_bytes words))

-- the bytes after that name
abbrev pub slot_pad : List ℕ → List ℕ
slot_pad words = drop (word (slot_bytes words) 0) (drop 1 (slot_bytes words))

-- the full name in an entry's words
abbrev pub slot_fid : List ℕ → Fid
slot_fid words = record { high = word words 1; low = word words 2; version = word words 3 }

-- These words, and no more, are the slot of a file: type 1 and the length, the serial, the version, 0, an address that isn't
-- read here, the name.
unfoldable pub is_entry : List ℕ → Bool
is_entry words =
    let name = slot_name words in
    word words 0 == 1024 + length words
    && length words == entry_length (length name)
    && length name == word (slot_bytes words) 0
    && is_stored_name name
    && list_all (λ b. b == 0) (slot_pad words)
    && word words 4 == 0
    && is_full_name (slot_fid words)

-- these words, and no more, as a slot: type 0 is a free one, type 1 a file's
abbrev pub slot_of : List ℕ → Option Item
slot_of words =
    cond (word words 0 == length words) (Some (space (length words)))
    (cond (is_entry words) (Some (entry (slot_fid words) (slot_name words))) None)

-- the length that a slot's first word states
abbrev pub first_length : List ℕ → ℕ
first_length words = word words 0 % 1024

-- the slot at the head of these words, if it can be read
unfoldable pub slot_at : List ℕ → Option Item
slot_at words = cond (nat_le 1 (first_length words) && nat_le (first_length words) (length words)) (slot_of (take (first_length words) words)) None

-- ---- the slots of a directory
-- a slot, and what follows it
abbrev pub and_then : Option Item → (ℕ → List Item) → List Item
and_then None rest = []
and_then (Some i) rest = i ∷ rest (item_words i)

-- the slots up to the first that can't be read, once so many words are passed over
unfoldable pub slots_after : ℕ → List ℕ → List Item
slots_after skip [] = []
slots_after zero (w ∷ words) = and_then (slot_at (w ∷ words)) (λ n. slots_after (n - 1) words)
slots_after (suc k) (w ∷ words) = slots_after k words

-- the slots of the longest readable prefix of these words
abbrev pub slots : List ℕ → List Item
slots = slots_after 0

-- ---- the same as a relation
-- These words, and no more, are this slot.
pub record IsSlot (words : List ℕ) (i : Item) : Type 0 where
  pub some : 0 < length words
  pub most : length words < 1024
  pub first : first_length words ≡ length words
  pub reads : slot_of words ≡ Some i
  pub size : item_words i ≡ length words

-- These words, to their end, are these slots.
pub data Reads : List ℕ → List Item → Type 0 where
  none : Reads [] []
  next : {words w rest : List ℕ} {i : Item} {is : List Item} → words ≡ w ++ rest → IsSlot w i → Reads rest is → Reads words (i ∷ is)

-- These are the slots of the longest prefix of the words that slots fill to its end. A relation, to be read; the function
-- `slots` is to give them, as is shown where directories are read.
pub record ReadsLongest (words : List ℕ) (is : List Item) : Type 0 where
  pub front : List ℕ
  pub rest : List ℕ
  pub split : words ≡ front ++ rest
  pub reads : Reads front is
  pub longest : (other behind : List ℕ) (js : List Item) → words ≡ other ++ behind → Reads other js → length other ≤ length front

-- Bytes in whole words.
pub data IsEven : List ℕ → Type 0 where
  none : IsEven []
  two : {a b : ℕ} {bytes : List ℕ} → IsEven bytes → IsEven (a ∷ b ∷ bytes)

-- The bytes of a directory are slots to their end.
pub record SlotsReachEnd (bytes : List ℕ) : Type 0 where
  pub even : IsEven bytes
  pub items : List Item
  pub reads : Reads (words_of bytes) items
