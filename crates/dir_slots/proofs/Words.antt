-- Words and their bytes.
use Rattle.std.proofs.Common.{◌≡◌, ℕ, ◌-◌, List, length, take, drop, ap}
use Rattle.std.proofs.lemmas.List.{take_rest}
use Rattle.pack_model.specs.reading.Bytes.{bytes_of}
use Rattle.pack_model.specs.reading.Slots.{slot_bytes}

-- the words from word 6 on, as they are borrowed
pub name_after : (words : List ℕ) → bytes_of (take (length words - 6) (drop 6 words)) ≡ slot_bytes words
name_after words = ap bytes_of (take_rest words 6)
