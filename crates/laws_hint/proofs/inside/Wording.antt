-- The words of a table of busy bits are those of the map with its bits, and the bits in words are theirs.
use Rattle.std.proofs.Common.{Bool, List, [], ap, arith, cond, drop, false, get_or, length, map, refl, replicate, suc, sym, true, zero, ℕ, ◌%◌, ◌*◌, ◌+◌, ◌-◌, ◌/◌, ◌<◌, ◌^◌, ◌∙◌, ◌∷◌, ◌≡◌, ◌≤◌}
use Rattle.std.specs.List.{range_with_len}
use Rattle.std.proofs.Math.Nat.{mul_assoc, pow-suc}
use Rattle.std.proofs.lemmas.List.{drop-drop, get_or_default, length-drop, length-take}
use Rattle.std.proofs.lemmas.List.FromFn.{get_or-map-range_with_len, length-map-range_with_len}
use Rattle.std.proofs.lemmas.Nat.Bits.{bit_at-zero, bit_at_ones}
use Rattle.std.specs.Prelude.{◌==◌}
use Rattle.laws_line.specs.disk_records.specs.Addresses.{pages_of, table_words}
use Rattle.laws_line.specs.hint_cache.proofs.Numbers.{is_one-number_of}
use Rattle.laws_line.specs.hint_cache.specs.Bits.{bit_in, bits_in, digit_at, is_one, number_of, word_of}
use Rattle.laws_line.specs.pack_model.specs.reading.Files.{file_bytes}
use Rattle.laws_line.specs.alto_words.specs.Fid.{disk_descriptor}
use Rattle.laws_line.specs.pack_model.specs.states.InUse.{one_if}
use Rattle.laws_line.specs.pack_model.specs.reading.Model.{descriptor_words}
use Rattle.laws_line.specs.pack_model.specs.reading.Sights.{sights}
use Rattle.laws_line.specs.pack_model.specs.hints.Tables.{bits_from, bits_value, is_busy, table_in, words_of_bits}
use Rattle.laws_line.specs.pack_laws.proofs.Bytes.{length-words_of}
use Rattle.laws_hint.proofs.inside.Meaning.{same_bits}
use Rattle.laws_hint.specs.MapWords.{AbsentMapIsReadBusyAndDescribedFree, TableGivesTheWordsOfItsBits, TableIsWritten, TableOfEnoughWordsIsTheirMap, TableReadIsDescribed, WholePackDescribesTheTableRead, WordsGiveTheMapBack, words_given}

-- ---- numbers
-- the most significant of one digit more
number_of-first : (bits : List Bool) (at n : ℕ) → number_of bits at (suc n) ≡ digit_at bits at * 2 ^ n + number_of bits (suc at) n
unfolding number_of
number_of-first bits at zero = let z : at + 0 ≡ at = omega arith in let e = ap (digit_at bits) z in omega (arith, e)
number_of-first bits at (suc n) =
    let z : at + suc n ≡ suc at + n = omega arith in
    let e = ap (digit_at bits) z in
    let rest = number_of-first bits at n in
    let twice : digit_at bits at * 2 ^ suc n ≡ digit_at bits at * 2 ^ n * 2 = ap (λ m. digit_at bits at * m) (pow-suc 2 n) ∙ sym (mul_assoc (digit_at bits at) (2 ^ n) 2) in
    omega (arith, e, rest, twice)

-- digits of a longer list
number_of-later : (b : Bool) (bits : List Bool) (at n : ℕ) → number_of (b ∷ bits) (suc at) n ≡ number_of bits at n
unfolding number_of
number_of-later b bits at zero = refl
number_of-later b bits at (suc n) =
    let z : suc at + n ≡ suc (at + n) = omega arith in
    let e : digit_at (b ∷ bits) (suc at + n) ≡ digit_at bits (at + n) = ap (digit_at (b ∷ bits)) z in
    let rest = number_of-later b bits at n in
    omega (arith, e, rest)

-- no bits are 0
number_of-none : (at n : ℕ) → number_of [] at n ≡ 0
unfolding number_of
number_of-none at zero = refl
number_of-none at (suc n) = let rest = number_of-none at n in omega (arith, rest)

digit-one_if : (b : Bool) → cond b 1 0 ≡ one_if b
digit-one_if true = refl
digit-one_if false = refl

-- so many bits are one number, by either way
number_of-value : (bits : List Bool) (n : ℕ) → number_of bits 0 n ≡ bits_value n bits
unfolding number_of
number_of-value bits zero = refl
number_of-value [] (suc n) = number_of-none 0 (suc n)
number_of-value (b ∷ bits) (suc n) = number_of-first (b ∷ bits) 0 n ∙ ap (λ d. d * 2 ^ n + number_of (b ∷ bits) 1 n) (digit-one_if b) ∙ ap (λ m. one_if b * 2 ^ n + m) (number_of-later b bits 0 n ∙ number_of-value bits n)

-- from any place on
number_of-drop : (bits : List Bool) (at n : ℕ) → number_of bits at n ≡ bits_value n (drop at bits)
number_of-drop bits zero n = number_of-value bits n
number_of-drop [] (suc at) n = number_of-none (suc at) n ∙ sym (number_of-none 0 n) ∙ number_of-value [] n
number_of-drop (b ∷ bits) (suc at) n = number_of-later b bits at n ∙ number_of-drop bits at n

-- ---- words of bits
words_from : (many from : ℕ) (bits : List Bool) → map (word_of bits) (range_with_len from many) ≡ words_of_bits many (drop (from * 16) bits)
words_from zero from bits = refl
words_from (suc many) from bits =
    let z : from * 16 + 16 ≡ (from + 1) * 16 = omega arith in
    let here : word_of bits from ≡ bits_value 16 (drop (from * 16) bits) = number_of-drop bits (from * 16) 16 in
    let rest : map (word_of bits) (range_with_len (from + 1) many) ≡ words_of_bits many (drop 16 (drop (from * 16) bits)) =
    words_from many (from + 1) bits ∙ ap (λ n. words_of_bits many (drop n bits)) (sym z) ∙ ap (words_of_bits many) (sym (drop-drop 16 (from * 16) bits)) in
    λ i. here i ∷ rest i

pub table_gives_the_words_of_its_bits : TableGivesTheWordsOfItsBits
table_gives_the_words_of_its_bits many bits = words_from many 0 bits

-- ---- bits of words
bits_from-each : (words : List ℕ) (n at : ℕ) → at + n ≤ 16 * length words → map (bit_in words) (range_with_len at n) ≡ bits_from words at n
bits_from-each words zero at l = refl
bits_from-each words (suc n) at l =
    let z : at + 1 ≡ suc at = omega arith in
    let here : bit_in words at ≡ is_busy words at = ap (λ w. is_one w (at % 16)) (get_or_default words (at / 16) 65535 0 (omega (arith, l))) in
    let rest : map (bit_in words) (range_with_len (at + 1) n) ≡ bits_from words (suc at) n = ap (λ k. map (bit_in words) (range_with_len k n)) z ∙ bits_from-each words n (suc at) (omega (arith, l)) in
    λ i. here i ∷ rest i

pub table_of_enough_words_is_their_map : TableOfEnoughWordsIsTheirMap
table_of_enough_words_is_their_map pages words l = bits_from-each words pages 0 (omega (arith, l))

-- ---- and back
-- the table that a table's words hold is that table
given_back : (many : ℕ) (bits : List Bool) → length bits ≤ 16 * many → bits_in (length bits) (words_given many bits) ≡ bits
given_back many bits l = same_bits (bits_in (length bits) ws) bits size (λ at low. one at (omega (arith, low, size)))
  where
    ws : List ℕ
    ws = words_given many bits

    size : length (bits_in (length bits) ws) ≡ length bits
    size = length-map-range_with_len (bit_in ws) 0 (length bits)

    one : (at : ℕ) → at < length bits → get_or (bits_in (length bits) ws) at true ≡ get_or bits at true
    one at low =
        let z : 0 + at ≡ at = omega arith in
        let y : 0 + at / 16 ≡ at / 16 = omega arith in
        let x : at / 16 * 16 + at % 16 ≡ at = omega arith in
        get_or-map-range_with_len (bit_in ws) 0 (length bits) at at true low z
        ∙ ap (λ w. is_one w (at % 16)) (get_or-map-range_with_len (word_of bits) 0 many (at / 16) (at / 16) 65535 (omega (arith, l, low)) y)
        ∙ is_one-number_of bits (at / 16 * 16) (at % 16) (omega arith)
        ∙ ap (λ n. get_or bits n false) x
        ∙ get_or_default bits at false true low

pub words_give_the_map_back : WordsGiveTheMapBack
words_give_the_map_back many bits l =
    let size : length (words_given many bits) ≡ many = length-map-range_with_len (word_of bits) 0 many in
    ap (λ ws. bits_from ws 0 (length bits)) (sym (table_gives_the_words_of_its_bits many bits)) ∙ sym (table_of_enough_words_is_their_map (length bits) (words_given many bits) (omega (arith, l, size))) ∙ given_back many bits l

-- ---- DiskDescriptor
pub table_read_is_described : TableReadIsDescribed
table_read_is_described p long =
    let left = length-drop 16 (descriptor_words (sights p)) in
    let size = length-take (table_words p.shape) (drop 16 (descriptor_words (sights p))) in
    table_of_enough_words_is_their_map (pages_of p.shape) (table_in p) (omega (arith, long, left, size))

pub whole_pack_describes_the_table_read : WholePackDescribesTheTableRead
whole_pack_describes_the_table_read p w =
    let bytes = w.descriptor_fits.size in
    let words = length-words_of (file_bytes (sights p) disk_descriptor) in
    table_read_is_described p (omega (arith, bytes, words))

-- a map without words
none_read : (n at : ℕ) → map (bit_in []) (range_with_len at n) ≡ replicate n true
none_read zero at = refl
none_read (suc n) at =
    let one : bit_in [] at ≡ true = ap (λ m. m == 1) (bit_at_ones 16 (15 - at % 16) (omega arith)) in
    let rest = none_read n (at + 1) in
    λ i. one i ∷ rest i

none_said : (n at : ℕ) → bits_from [] at n ≡ replicate n false
none_said zero at = refl
none_said (suc n) at =
    let zero : is_busy [] at ≡ false = ap (λ m. m == 1) (bit_at-zero (15 - at % 16)) in
    let rest = none_said n (suc at) in
    λ i. zero i ∷ rest i

pub absent_map_is_read_busy_and_described_free : AbsentMapIsReadBusyAndDescribedFree
absent_map_is_read_busy_and_described_free p none = (ap (bits_in (pages_of p.shape)) none ∙ none_read (pages_of p.shape) 0, ap (λ ws. bits_from ws 0 (pages_of p.shape)) none ∙ none_said (pages_of p.shape) 0)

pub table_is_written : TableIsWritten
table_is_written shape last mark bits = sym (table_gives_the_words_of_its_bits (table_words shape) bits)
