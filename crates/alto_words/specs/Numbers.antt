-- Numbers in text.
use Rattle.std.specs.Prelude.{ℕ, ◌+◌, ◌-◌, ◌*◌, ◌/◌, ◌%◌, min, bit_and, ◌==◌, ◌&&◌, Bool, false, cond, nat_le, nat_lt, List, [], ◌∷◌, length, Option, Some, None}
use Rattle.std.specs.List.{list_all, flat_map}
use Rattle.std.specs.Fmt.{digit_glyph}
use Rattle.alto_words.specs.Names.{is_digit, decimal_value}

-- 1 to 10 decimal digits with a value below 2^32; leading zeros are read
unfoldable pub number_in : List ℕ → Option ℕ
number_in text =
    cond (nat_le 1 (length text) && nat_le (length text) 10 && list_all is_digit text && nat_lt (decimal_value text) 4294967296)
    (Some (decimal_value text)) None

-- the value of a hexadecimal digit of either case
abbrev pub hex_digit : ℕ → Option ℕ
hex_digit c =
    cond (is_digit c) (Some (c - 48))
    (cond (nat_le 97 c && nat_le c 102) (Some (c - 87))
    (cond (nat_le 65 c && nat_le c 70) (Some (c - 55)) None))

abbrev pub hex_byte : Option ℕ → Option ℕ → Option (List ℕ) → Option (List ℕ)
hex_byte (Some high) (Some low) (Some bytes) = Some ((high * 16 + low) ∷ bytes)
hex_byte (Some high) (Some low) None = None
hex_byte (Some high) None bytes = None
hex_byte None low bytes = None

-- the bytes of hexadecimal digits in pairs
abbrev pub hex_pairs : List ℕ → Option (List ℕ)
hex_pairs [] = Some []
hex_pairs (a ∷ []) = None
hex_pairs (a ∷ b ∷ text) = hex_byte (hex_digit a) (hex_digit b) (hex_pairs text)

-- bytes, where they are given
abbrev pub bytes_if : Bool → List ℕ → Option (List ℕ)
bytes_if given bytes = cond given (Some bytes) None

-- the distance from `0` modulo 256, but 16 for the six bytes after `9`: of a decimal digit its value, of each other byte 16 or more
abbrev pub decimal_digit_value : ℕ → ℕ
decimal_digit_value c = ((c + (256 - 58)) % 256 - 6 + 16) % 256

-- 10, and the distance from `A` modulo 256 without bit 5, 255 at most: of a letter up to `F` its value, of each other byte 16 or more
abbrev pub letter_digit_value : ℕ → ℕ
letter_digit_value c = min ((bit_and c 223 + (256 - 65)) % 256 + 10) 255

-- of a hexadecimal digit its value, of each other byte 16 or more
abbrev pub digit_value : ℕ → ℕ
digit_value c = min (decimal_digit_value c) (letter_digit_value c)

-- a value that a hexadecimal digit has
abbrev pub is_digit_value : ℕ → Bool
is_digit_value value = nat_lt value 16

-- `-` is no bytes; otherwise an even number, above 0, of digits
unfoldable pub bytes_in_hex : List ℕ → Option (List ℕ)
bytes_in_hex [] = None
bytes_in_hex (a ∷ []) = cond (a == 45) (Some []) None
bytes_in_hex (a ∷ b ∷ text) = hex_pairs (a ∷ b ∷ text)

-- the two digits of a byte, in lower case
abbrev pub hex_of_byte : ℕ → List ℕ
hex_of_byte byte = digit_glyph false (byte / 16) ∷ digit_glyph false (byte % 16) ∷ []

-- the digits of bytes, in lower case
abbrev pub hex_of : List ℕ → List ℕ
hex_of bytes = flat_map hex_of_byte bytes
