-- What is kept of slots that were judged.
use Rattle.std.specs.Prelude.{◌≡◌, ℕ, ◌+◌, ◌-◌, ◌*◌, ◌/◌, ◌%◌, ◌≤◌, ◌++◌, false, List, length, take, drop, IfSome, Option}
use Rattle.alto_words.specs.Names.{is_same_name}
use Rattle.disk_records.specs.Words.{word}
use Rattle.pack_model.specs.reading.Slots.{entry_length, slot_name}
use Rattle.dir_slots.specs.Inside.{IsBareEntry, further}
use Rattle.dir_slots.specs.Others.{Passes}
use Rattle.dir_slots.specs.Walks.{Walked, Walking}
use Rattle.dir_slots.specs.declared.others.Passing.{Passing}

-- what an entry tells of its name: the length, and the low five bits of bytes in its last two words, of which the case of letters
-- changes none
abbrev pub key_of : List ℕ → ℕ
key_of words = word words 6 / 256 * 1024 + (word words (length words - 1) / 256 + word words (length words - 1 - 1) / 256) % 32 * 32 + word words (length words - 1 - 1) % 32

-- how many words the entry has that these words begin with
abbrev pub size_here : List ℕ → ℕ
size_here words = word words 0 - 1024

-- These words begin with the entry of a bare name, whose key is this.
pub record IsKeyed (words : List ℕ) (key : ℕ) : Type 0 where
  pub within : size_here words ≤ length words
  pub entry : IsBareEntry (take (size_here words) words)
  pub is : key_of (take (size_here words) words) ≡ key

-- such an entry begins at each of these words that has a key other than 0
abbrev pub AreKeyed : List ℕ → List ℕ → Type 0
AreKeyed words keys = (at : ℕ) → (word keys at ≡ 0 → ⊥) → IsKeyed (drop at words) (word keys at)

-- an entry that has another key than this one has another name than this one, if there is one
abbrev pub TellsByKey : Option (List ℕ) → ℕ → Type 0
TellsByKey name key = (words : List ℕ) → length words ≡ entry_length (word words 6 / 256) → (key_of words ≡ key → ⊥) → IfSome name (λ n. is_same_name (slot_name words) n ≡ false)

-- a walk may pass over what stands from one word of a page to another
abbrev pub MayPass : Passing → List ℕ → ℕ → ℕ → Type 0
MayPass passing page from end = (given : List ℕ) (walk : Walking) → walk.held ≡ 0 → walk.ended ≡ false → Walked (given ++ take from page) walk → Passes passing (given ++ take from page) (given ++ take end page) (further walk (end - from))
