-- When a text is a number.
use Rattle.std.proofs.Common.{[], ◌∷◌, ◌+◌, ◌*◌, ◌-◌, ◌^◌, ◌≡◌, ◌⊎◌, ℕ, ◌<◌, ◌≤◌, true, false, cond, nat_lt, List, length, get_or, take, Some, None, Result, Ok, Err, refl, ap, sym, ◌∙◌, arith}
use Rattle.std.specs.Char.{digit_value}
use Rattle.std.specs.Fmt.{decimal}
use Rattle.std.specs.List.{list_all, fold}
use Rattle.std.specs.Str.Parse.{AllDigits, digits_value_after}
use Rattle.std.proofs.lemmas.Bool.{and_from, cond-true, lt-ltb}
use Rattle.std.proofs.lemmas.Fmt.{decimal_is_IsNumeral, length-decimal-le}
use Rattle.std.specs.Result.{OkIff, result_ok}
use Rattle.std.proofs.lemmas.Bool.Decides.{nat_tests}
use Rattle.std.proofs.lemmas.List.{take_all}
use Rattle.std.proofs.lemmas.List.Folds.{list_all_at}
use Rattle.alto_words.specs.Names.{is_digit}
use Rattle.alto_words.specs.Names.{decimal_value}
use Rattle.alto_words.specs.Numbers.{number_in}

-- a text of no digits or of more than ten is no number
pub number_in-length : (text : List ℕ) → (length text ≡ 0) ⊎ (10 < length text) → None ≡ number_in text
unfolding number_in
number_in-length text h = grind (arith, nat_tests)

-- nor is one with anything but digits
pub number_in-other : (text : List ℕ) (i : ℕ) → i < length text → is_digit (get_or text i 0) ≡ false → None ≡ number_in text
unfolding number_in
number_in-other text i within other =
    let e : list_all is_digit text ≡ false = list_all_at is_digit text i 0 within other in
    grind (arith, nat_tests)

-- 1 to 10 digits are a number where their value is below 2^32
pub number_in-digits : (text : List ℕ) → 0 < length text → length text ≤ 10 → list_all is_digit text ≡ true
    → number_in text ≡ cond (nat_lt (decimal_value text) 4294967296) (Some (decimal_value text)) None
unfolding number_in
number_in-digits text some few all = grind (arith, nat_tests)

-- what a conversion to 32 bits answers
result_ok-narrow : {E : Type 0} (r : Result ℕ E) (n : ℕ) → OkIff r (n < 4294967296) n → result_ok r ≡ cond (nat_lt n 4294967296) (Some n) None
result_ok-narrow (Ok x) n h = grind (arith, nat_tests)
result_ok-narrow (Err e) n h = grind (arith, nat_tests)

-- the value of all digits, brought to 32 bits, is the number
pub number_in-read : {E : Type 0} (text : List ℕ) (i value : ℕ) (r : Result ℕ E) → 0 < length text → length text ≤ 10 → length text ≤ i
    → value ≡ decimal_value (take i text) → list_all is_digit (take i text) ≡ true → OkIff r (value < 4294967296) value → result_ok r ≡ number_in text
number_in-read text i value r some few past is all narrow =
    let e = take_all i text past in
    let digits : list_all is_digit text ≡ true = ap (list_all is_digit) (sym e) ∙ all in
    let same : value ≡ decimal_value text = is ∙ ap decimal_value e in
    result_ok-narrow r value narrow ∙ ap (λ n. cond (nat_lt n 4294967296) (Some n) None) same ∙ sym (number_in-digits text some few digits)

-- the decimal digits of a number are read as it
decimal_value-digits : (n : ℕ) (cs : List ℕ) → AllDigits 10 cs → (list_all is_digit cs ≡ true) × (fold (λ v c. v * 10 + (c - 48)) n cs ≡ digits_value_after 10 n cs)
decimal_value-digits n [] all = (refl, refl)
decimal_value-digits n (c ∷ cs) all =
    let one = digit c all.0 in
    let rest = decimal_value-digits (n * 10 + (c - 48)) cs all.1 in
    (and_from (is_digit c) (list_all is_digit cs) one.0 rest.0, rest.1 ∙ ap (λ d. digits_value_after 10 (n * 10 + d) cs) one.1)
  where
    digit : (c : ℕ) → digit_value c < 10 → (is_digit c ≡ true) × (c - 48 ≡ digit_value c)
    digit c h = (grind (arith, nat_tests), grind (arith, nat_tests))

pub decimal_value-decimal : (n : ℕ) → n < 2 ^ 64 → decimal_value (decimal n) ≡ n
decimal_value-decimal n fits =
    let numeral = decimal_is_IsNumeral n fits in
    (decimal_value-digits 0 (decimal n) numeral.0.1).1 ∙ numeral.1

pub number_in-decimal : (n : ℕ) → n < 2 ^ 32 → number_in (decimal n) ≡ Some n
number_in-decimal n fits =
    let numeral = decimal_is_IsNumeral n (omega arith) in
    let few = length-decimal-le 10 n (omega arith) (omega arith) (omega arith) in
    let digits = decimal_value-digits 0 (decimal n) numeral.0.1 in
    let value : decimal_value (decimal n) ≡ n = decimal_value-decimal n (omega arith) in
    number_in-digits (decimal n) numeral.0.0 few digits.0
    ∙ ap (λ v. cond (nat_lt v 4294967296) (Some v) None) value ∙ cond-true (nat_lt n 4294967296) (Some n) None (lt-ltb n 4294967296 (omega arith))
