-- Words of 16 bits.
use Rattle.std.specs.Prelude.{ℕ, ◌+◌, ◌*◌, List, get_or}

-- a word of a list; 0 past its end
abbrev pub word : List ℕ → ℕ → ℕ
word words i = get_or words i 0

-- a number of two words, the high word first
abbrev pub double : List ℕ → ℕ → ℕ
double words i = word words i * 65536 + word words (i + 1)
