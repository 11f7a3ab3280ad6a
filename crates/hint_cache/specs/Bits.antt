-- The bits of a table, one a sector: true is busy.
use Rattle.std.specs.Prelude.{ℕ, zero, suc, ◌+◌, ◌-◌, ◌*◌, ◌/◌, ◌%◌, ◌^◌, ◌==◌, Bool, true, false, cond, List, get_or, map}
use Rattle.std.specs.List.{range_with_len}

-- whether the table has the sector at this address as busy
abbrev pub busy_at : List Bool → ℕ → Bool
busy_at bits at = get_or bits at true

-- ---- as words of 16 bits: the most significant bit of the first word is sector 0, and 1 is busy
-- a bit of a word, numbered from the most significant
abbrev pub is_one : ℕ → ℕ → Bool
is_one word i = word / 2 ^ (15 - i) % 2 == 1

-- the bit of the sector at this address; a missing word has ones
abbrev pub bit_in : List ℕ → ℕ → Bool
bit_in words at = is_one (get_or words (at / 16) 65535) (at % 16)

-- a table of so many sectors
abbrev pub bits_in : ℕ → List ℕ → List Bool
bits_in pages words = map (bit_in words) (range_with_len 0 pages)

-- a bit as a digit, 0 past the last sector
abbrev pub digit_at : List Bool → ℕ → ℕ
digit_at bits at = cond (get_or bits at false) 1 0

-- the number that n bits from `at` on make, the most significant first
unfoldable pub number_of : List Bool → ℕ → ℕ → ℕ
number_of bits at zero = 0
number_of bits at (suc n) = number_of bits at n * 2 + digit_at bits (at + n)

abbrev pub word_of : List Bool → ℕ → ℕ
word_of bits index = number_of bits (index * 16) 16
