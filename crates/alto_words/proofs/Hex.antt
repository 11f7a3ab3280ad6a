-- Bytes in hexadecimal: digits are read in pairs, and what the crate `hex` writes is what the definitions say.
use Rattle.std.proofs.Common.{◌≡◌, ◌≢◌, ℕ, suc, ◌/◌, ◌%◌, ◌<◌, get_or, Bool, true, false, ◌==◌, ◌&&◌, nat_eq, List, [], ◌∷◌, length, Option, Some, None, refl, ap, sym, ◌∙◌, arith}
use Rattle.std.specs.Fmt.{digit_glyph}
use Rattle.std.specs.Char.{is_ascii_hexdigit}
use Rattle.std.specs.List.{All, list_all}
use Rattle.std.specs.Option.{is_some}
use Rattle.std.proofs.lemmas.Bool.{agree_below_at, eq-eqb, eqb-true, false≢true}
use Rattle.std.proofs.lemmas.List.Elements.{All-head, All-tail}
use Rattle.std.specs.Cmp.Lexicographic.{pointwise}
use Rattle.std.proofs.lemmas.Bool.Decides.{nat_tests}
use Rattle.hex.specs.Hex.{encode_lower, encode_with, lower_digits}
use Rattle.alto_words.specs.Numbers.{hex_digit, hex_byte, hex_pairs, bytes_in_hex, hex_of}

-- a text other than no byte and `-` is read in pairs
pub bytes_in_hex-pairs : (text : List ℕ) → (length text == 0) ≡ false → pointwise nat_eq text (45 ∷ []) ≡ false → bytes_in_hex text ≡ hex_pairs text
unfolding bytes_in_hex
bytes_in_hex-pairs [] some other = absurd cc
bytes_in_hex-pairs (a ∷ []) some other = grind (arith, nat_tests)
bytes_in_hex-pairs (a ∷ b ∷ text) some other = refl

is_some-none : (o : Option (List ℕ)) → is_some o ≡ false → o ≡ None
is_some-none None e = refl
is_some-none (Some bytes) e = absurd (false≢true (sym e))

is_some-hex_byte : (high low : Option ℕ) (rest : Option (List ℕ)) → is_some (hex_byte high low rest) ≡ (is_some high && (is_some low && is_some rest))
is_some-hex_byte None low rest = refl
is_some-hex_byte (Some high) None rest = refl
is_some-hex_byte (Some high) (Some low) None = refl
is_some-hex_byte (Some high) (Some low) (Some rest) = refl

is_some-hex_digit : (c : ℕ) → is_some (hex_digit c) ≡ is_ascii_hexdigit c
is_some-hex_digit c = grind (arith, nat_tests)

two_more : (n : ℕ) → (suc (suc n) % 2 == 0) ≡ (n % 2 == 0)
two_more n = grind (arith, nat_tests)

swap_front : (a b even rest : Bool) → (a && (b && (even && rest))) ≡ (even && (a && (b && rest)))
swap_front true b even rest = swap_second b even rest
  where
    swap_second : (b even rest : Bool) → (b && (even && rest)) ≡ (even && (b && rest))
    swap_second true even rest = refl
    swap_second false true rest = refl
    swap_second false false rest = refl
swap_front false b true rest = refl
swap_front false b false rest = refl

-- an even number of digits is digits in pairs, and nothing else
is_some-hex_pairs : (text : List ℕ) → is_some (hex_pairs text) ≡ ((length text % 2 == 0) && list_all is_ascii_hexdigit text)
is_some-hex_pairs [] = refl
is_some-hex_pairs (a ∷ []) = refl
is_some-hex_pairs (a ∷ b ∷ text) =
    is_some-hex_byte (hex_digit a) (hex_digit b) (hex_pairs text)
    ∙ (λ i. is_some-hex_digit a i && (is_some-hex_digit b i && is_some-hex_pairs text i))
    ∙ swap_front (is_ascii_hexdigit a) (is_ascii_hexdigit b) (length text % 2 == 0) (list_all is_ascii_hexdigit text)
    ∙ ap (λ even. even && (is_ascii_hexdigit a && (is_ascii_hexdigit b && list_all is_ascii_hexdigit text))) (sym (two_more (length text)))

-- an even number of digits gives bytes
pub pairs_given : (text : List ℕ) → length text % 2 ≡ 0 → list_all is_ascii_hexdigit text ≡ true → hex_pairs text ≢ None
pairs_given text even all none =
    false≢true (ap is_some (sym none) ∙ is_some-hex_pairs text ∙ (λ i. eq-eqb (length text % 2) 0 even i && all i))

-- with another character they give none
pub pairs_refused : (text : List ℕ) → length text % 2 ≡ 0 → list_all is_ascii_hexdigit text ≡ false → hex_pairs text ≡ None
pairs_refused text even other =
    is_some-none (hex_pairs text) (is_some-hex_pairs text ∙ (λ i. eq-eqb (length text % 2) 0 even i && other i))

-- an odd number of characters gives none
pub pairs_odd : (text : List ℕ) → (length text % 2 == 0) ≡ false → hex_pairs text ≡ None
pairs_odd text odd = is_some-none (hex_pairs text) (is_some-hex_pairs text ∙ ap (λ even. even && list_all is_ascii_hexdigit text) odd)

-- no digits at all
pub bytes_in_hex-empty : (text : List ℕ) → (length text == 0) ≡ true → bytes_in_hex text ≡ None
unfolding bytes_in_hex
bytes_in_hex-empty [] empty = refl
bytes_in_hex-empty (a ∷ text) empty = grind (arith, nat_tests)

-- `-` is no bytes
pub bytes_in_hex-dash : (text : List ℕ) → pointwise nat_eq text (45 ∷ []) ≡ true → bytes_in_hex text ≡ Some []
unfolding bytes_in_hex
bytes_in_hex-dash [] dash = absurd cc
bytes_in_hex-dash (a ∷ []) dash = grind (arith, nat_tests)
bytes_in_hex-dash (a ∷ b ∷ text) dash = grind (arith, nat_tests)

-- the crate's table of digits is the one of the definitions
is_glyph : ℕ → Bool
is_glyph d = get_or lower_digits d 0 == digit_glyph false d

glyph : (d : ℕ) → d < 16 → get_or lower_digits d 0 ≡ digit_glyph false d
unfolding is_glyph
glyph d small = eqb-true (get_or lower_digits d 0) (digit_glyph false d) (agree_below_at is_glyph (λ _. true) 16 d refl small)

-- what `encode` writes is the digits of the bytes
pub hex_of-encode : (bytes : List ℕ) → ((i : ℕ) → get_or bytes i 0 < 256) → encode_lower bytes ≡ hex_of bytes
unfolding encode_with
hex_of-encode [] fits = refl
hex_of-encode (b ∷ bytes) fits =
    let byte : b < 256 = fits 0 in
    λ i. glyph (b / 16) (omega arith) i ∷ glyph (b % 16) (omega arith) i ∷ hex_of-encode bytes (λ k. fits (suc k)) i

hex_digit-glyph : (d : ℕ) → d < 16 → hex_digit (digit_glyph false d) ≡ Some d
hex_digit-glyph d small = grind (arith, nat_tests)

-- the digits of bytes give the bytes
hex_pairs-hex_of : (bytes : List ℕ) → All (λ b. b < 256) bytes → hex_pairs (hex_of bytes) ≡ Some bytes
hex_pairs-hex_of [] all = refl
hex_pairs-hex_of (b ∷ bytes) all =
    let byte : b < 256 = All-head (λ x. x < 256) b bytes all in
    let rest = hex_pairs-hex_of bytes (All-tail (λ x. x < 256) b bytes all) in
    (λ i. hex_byte (hex_digit-glyph (b / 16) (omega arith) i) (hex_digit-glyph (b % 16) (omega arith) i) (rest i))
    ∙ ap (λ n. Some (n ∷ bytes)) (omega arith)

pub bytes_in_hex-hex_of : (bytes : List ℕ) → 0 < length bytes → All (λ b. b < 256) bytes → bytes_in_hex (hex_of bytes) ≡ Some bytes
unfolding bytes_in_hex
bytes_in_hex-hex_of [] some all = absurd (omega arith)
bytes_in_hex-hex_of (b ∷ bytes) some all = hex_pairs-hex_of (b ∷ bytes) all
