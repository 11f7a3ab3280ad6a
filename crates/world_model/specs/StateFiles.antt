-- The file of a world: a mark, a level and the words of a memory.
-- OutLoad and InLoad are those of the SOSP 1979 paper; what a world is, and the form of its file, are this project's choice.
use Rattle.std.specs.Prelude.{◌≡◌, ℕ, ◌+◌, ◌-◌, ◌==◌, ◌&&◌, cond, nat_le, List, ◌∷◌, ◌++◌, length, drop, replicate, Option, Some, None}
use Rattle.std.specs.Option.{option_map, option_or}
use Rattle.disk_records.specs.Bytes.{bytes_of, words_of, put_at}
use Rattle.disk_records.specs.Words.{word}
use Rattle.world_model.specs.ZoneWords.{first_broken}
use Rattle.world_model.specs.Levels.{all_levels, level_base}

-- ---- word 0 is the mark, word 1 the level, and from word 2 on stands the memory
-- the mark of a whole file, and that of one that isn't whole
abbrev pub mark_whole : ℕ
mark_whole = 42330

abbrev pub mark_begun : ℕ
mark_begun = 0

-- its length in bytes
abbrev pub state_length : ℕ
state_length = 131076

abbrev pub state_bytes : ℕ → ℕ → List ℕ → List ℕ
state_bytes mark level memory = bytes_of (mark ∷ level ∷ memory)

abbrev pub state_mark : List ℕ → ℕ
state_mark words = word words 0

abbrev pub state_level : List ℕ → ℕ
state_level words = word words 1

abbrev pub state_memory : List ℕ → List ℕ
state_memory words = drop 2 words

-- the first word of the file that no world has: its level, or a word of its memory
abbrev pub spoilt_memory : List ℕ → Option ℕ
spoilt_memory words = option_map (λ at. at + 2) (first_broken (level_base (state_level words)) (state_memory words))

abbrev pub spoilt_word : List ℕ → Option ℕ
spoilt_word words = cond (nat_le 1 (state_level words) && nat_le (state_level words) all_levels) (spoilt_memory words) (Some 1)

-- ---- what bytes have against them that are the file of no whole world
-- so many of them, and not a world's; this mark, which no whole file has; this word, the first that no world has
pub data Fault : Type 0 where
  not_a_world : ℕ → Fault
  not_whole : ℕ → Fault
  spoilt : ℕ → Fault

abbrev pub length_fault : ℕ → Option Fault
length_fault size = cond (size == state_length) None (Some (not_a_world size))

abbrev pub mark_fault : ℕ → Option Fault
mark_fault mark = cond (mark == mark_whole) None (Some (not_whole mark))

-- the first of the three
abbrev pub fault_of : List ℕ → Option Fault
fault_of bytes =
    option_or (length_fault (length bytes))
    (option_or (mark_fault (state_mark (words_of bytes)))
    (option_map spoilt (spoilt_word (words_of bytes))))

-- These bytes are the file of a whole world.
abbrev pub IsState : List ℕ → Type 0
IsState bytes = fault_of bytes ≡ None

-- ---- the message that a world finds when it comes back: 40 bytes, those stated and then zeros, in its first 20 words
abbrev pub message_length : ℕ
message_length = 40

abbrev pub message_bytes : List ℕ → List ℕ
message_bytes stated = stated ++ replicate (message_length - length stated) 0

abbrev pub with_message : List ℕ → List ℕ → List ℕ
with_message stated words = put_at 0 (words_of (message_bytes stated)) words
