-- The words that slots are written as, and slots with the addresses that stand in them.
-- An address beside each full name, as a hint, is that of the SOSP 1979 paper; the layout of slots is this project's choice.
use Rattle.std.specs.Prelude.{ℕ, ◌+◌, ◌-◌, List, [], ◌∷◌, ◌++◌, length, replicate}
use Rattle.disk_records.specs.alto_words.specs.declared.fid.Fid.{Fid}
use Rattle.disk_records.specs.Words.{word}
use Rattle.pack_model.specs.reading.Bytes.{words_of}
use Rattle.pack_model.specs.reading.Slots.{Item, entry_length, item_words}
use Rattle.pack_model.specs.reading.Slots.Item.{space, entry}

-- ---- slots as they are written
-- a length byte, the characters, and where the sum is odd a byte 0, in words
abbrev pub short_name_words : List ℕ → List ℕ
short_name_words name = words_of (length name ∷ (name ++ 0 ∷ []))

-- the words of an entry, with the virtual address of the file's leader
abbrev pub entry_words : Fid → ℕ → List ℕ → List ℕ
entry_words f address name = (1024 + entry_length (length name)) ∷ f.high ∷ f.low ∷ f.version ∷ 0 ∷ address ∷ short_name_words name

-- the words of a new free slot of n words: its length, and zeros
abbrev pub space_words : ℕ → List ℕ
space_words n = n ∷ replicate (n - 1) 0

-- ---- slots where they stand
-- A slot with the place of its first word in the directory, and of an entry the address in its word 5, a virtual one.
pub record SlotAt : Type 0 where
  pub place : ℕ
  pub item : Item
  pub address : ℕ

-- the word of an entry that is the address of the file's leader
abbrev pub address_word : ℕ → ℕ
address_word place = place + 5

abbrev pub address_at : List ℕ → ℕ → Item → ℕ
address_at words place (space n) = 0
address_at words place (entry f name) = word words (address_word place)

-- these slots as they stand in a directory's words from a word on
unfoldable pub slots_at : List ℕ → ℕ → List Item → List SlotAt
slots_at words place [] = []
slots_at words place (i ∷ is) = record { place = place; item = i; address = address_at words place i } ∷ slots_at words (place + item_words i) is
