-- Which bytes of the texts that were shown are held back on their way to the display.
use Rattle.std.specs.Prelude.{◌≡◌, ◌⊎◌, ℕ, ◌+◌, ◌<◌, ◌≤◌, List, [], ◌++◌, length, vec_len, vec_capacity}
use Rattle.disk_image.specs.declared.texts.HeldTexts.{HeldTexts}

-- the bytes that are held, in the order in which they were shown
abbrev pub held_text : HeldTexts → List ℕ
held_text texts = texts.buffer.items

abbrev pub HoldsNoText : HeldTexts → Type 0
HoldsNoText texts = held_text texts ≡ []

-- there is room for so many bytes after those that are held
abbrev pub FitsAfter : ℕ → HeldTexts → Type 0
FitsAfter count texts = vec_len texts.buffer + count ≤ vec_capacity texts.buffer

-- there isn't
abbrev pub IsTooLong : ℕ → HeldTexts → Type 0
IsTooLong count texts = vec_capacity texts.buffer < vec_len texts.buffer + count

-- A text is taken for the display. Where there is room for it, it is held after what is held. Else what is held goes ahead, and the text
-- alone is held; or nothing is, and it was written at once: where there is no room for it alone.
abbrev pub TakesText : List ℕ → HeldTexts → HeldTexts → Type 0
TakesText text old new =
    (FitsAfter (length text) old × (held_text new ≡ held_text old ++ text))
    ⊎ (IsTooLong (length text) old × ((held_text new ≡ text) ⊎ (IsTooLong (length text) new × HoldsNoText new)))
