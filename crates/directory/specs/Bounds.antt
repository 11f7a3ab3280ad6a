-- How long a directory can be.
use Rattle.std.specs.Prelude.{ℕ}

-- the words of the longest one: 65,535 pages of 256 words
abbrev pub most_words : ℕ
most_words = 16776960
