-- Words as bytes, and bytes as words: the high byte of a word comes first.
-- Words of 16 bits are the Alto's; that the high byte comes first is this project's choice.
use Rattle.std.specs.Prelude.{ℕ, ◌+◌, ◌*◌, ◌/◌, ◌%◌, List, [], ◌∷◌, ◌++◌, length, take, drop}

abbrev pub bytes_of : List ℕ → List ℕ
bytes_of [] = []
bytes_of (w ∷ words) = (w / 256) ∷ (w % 256) ∷ bytes_of words

-- bytes in pairs; a last odd byte is left out
abbrev pub words_of : List ℕ → List ℕ
words_of [] = []
words_of (a ∷ []) = []
words_of (a ∷ b ∷ bytes) = (a * 256 + b) ∷ words_of bytes

-- new bytes in the place of old ones, from a byte on
abbrev pub put_at : ℕ → List ℕ → List ℕ → List ℕ
put_at at new old = take at old ++ new ++ drop (at + length new) old
