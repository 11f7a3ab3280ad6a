-- What is made of a stem and a version, and which digits state a version.
use Rattle.std.proofs.Common.{◌≡◌, ◌≢◌, ℕ, ◌+◌, ◌≤◌, Bool, true, false, cond, ◌==◌, ◌&&◌, nat_le, nat_lt, nat_eq, List, [], ◌∷◌, ◌++◌, length, Option, Some, None, refl, ap, sym, ◌∙◌, arith, length-append}
use Rattle.std.specs.Fmt.{decimal}
use Rattle.std.specs.List.{list_all}
use Rattle.std.specs.Cmp.Lexicographic.{pointwise, same_text, nat_list_eq_equiv}
use Rattle.std.specs.Borrow.{Bor}
use Rattle.std.specs.Option.{MatchOption, unwrap_or}
use Rattle.std.proofs.lemmas.Bool.{and_parts, cond-true, cond-false, eq-eqb, eqb-true, false_from_ne_true}
use Rattle.std.proofs.lemmas.Bool.Decides.{nat_tests}
use Rattle.alto_words.specs.Names.{is_name_character, is_bare_name, is_stored_name, stored_in, after_mark, base_of, version_of, version_text, versioned, version_in, decimal_value, is_digit, last_byte, but_last, with_dot, without_dot, with_version}
use Rattle.alto_words.specs.Numbers.{number_in}
use Rattle.alto_words.proofs.Names.{is_bare_name-stem, last_byte-front, last_byte-push, last_byte-bare}
use Rattle.alto_words.proofs.Reading.{number_in-decimal}
use Rattle.alto_words.proofs.Marks.{no_mark, but_last-push}
use Rattle.alto_words.proofs.Versions.{base_is, version_is}

-- what is asked of a stem with a version
abbrev pub fits_stem : List ℕ → ℕ → Bool
fits_stem stem n = nat_le 1 (length stem) && list_all is_name_character stem && nat_le (length stem + length (version_text n)) 38

tests : (a m c s size bare lower upper same : Bool) → (s ≡ true → m ≡ true) → size ≡ s → bare ≡ (a && m && c) → lower ≡ true → upper ≡ true → same ≡ true → (size && bare && lower && upper && same) ≡ (a && c && s)
tests a m c true size bare lower upper same short e f g h k =
    let long : m ≡ true = short refl in
    (λ i. e i && f i && g i && h i && k i) ∙ by a c m long
  where
    by : (a c m : Bool) → m ≡ true → (true && (a && m && c) && true && true && true) ≡ (a && c && true)
    by true true true long = refl
    by true false true long = refl
    by false true true long = refl
    by false false true long = refl
    by a c false long = absurd cc
tests a m c false size bare lower upper same short e f g h k = (λ i. e i && f i && g i && h i && k i) ∙ by a c
  where
    by : (a c : Bool) → false ≡ (a && c && false)
    by true true = refl
    by true false = refl
    by false true = refl
    by false false = refl

pub made_is : (stem : List ℕ) (n : ℕ) → after_mark stem ≡ None → 1 ≤ n → n ≤ 65534 → is_stored_name (stem ++ version_text n ++ (46 ∷ [])) ≡ fits_stem stem n
unfolding is_stored_name
made_is stem n none least most =
    let name : List ℕ = stem ++ version_text n ++ (46 ∷ []) in
    let long = length-append (stem ++ version_text n) (46 ∷ []) in
    let both = length-append stem (version_text n) in
    let b = base_is stem n none most in
    let v = version_is stem n none most in
    let again : versioned (base_of name) (version_of name) ≡ name = (λ i. versioned (b i) (v i)) ∙ ap (λ s. s ++ version_text n ++ (46 ∷ [])) (but_last-push stem 46) in
    tests (nat_le 1 (length stem)) (nat_le (length stem) 38) (list_all is_name_character stem) (nat_le (length stem + length (version_text n)) 38)
    (nat_le (length name) 39) (is_bare_name (base_of name)) (nat_le 1 (version_of name)) (nat_le (version_of name) 65534) (pointwise nat_eq name (versioned (base_of name) (version_of name)))
    (λ short. grind (arith, nat_tests))
    (grind (arith, nat_tests))
    (ap is_bare_name b ∙ is_bare_name-stem stem)
    (ap (nat_le 1) v ∙ grind (arith, nat_tests))
    (ap (λ n. nat_le n 65534) v ∙ grind (arith, nat_tests))
    (ap (pointwise nat_eq name) again ∙ nat_list_eq_equiv.refl name)

pub none_made : (stem : List ℕ) (n : ℕ) → after_mark stem ≡ None → 1 ≤ n → n ≤ 65534 → fits_stem stem n ≡ false → None ≡ stored_in (stem ++ version_text n ++ (46 ∷ []))
none_made stem n none least most fails = sym (cond-false (is_stored_name (stem ++ version_text n ++ (46 ∷ []))) (Some (stem ++ version_text n ++ (46 ∷ []))) None (made_is stem n none least most ∙ fails))

pub some_made : (stem : List ℕ) (n : ℕ) → after_mark stem ≡ None → 1 ≤ n → n ≤ 65534 → fits_stem stem n ≡ true → Some (stem ++ version_text n ++ (46 ∷ [])) ≡ stored_in (stem ++ version_text n ++ (46 ∷ []))
some_made stem n none least most fits = sym (cond-true (is_stored_name (stem ++ version_text n ++ (46 ∷ []))) (Some (stem ++ version_text n ++ (46 ∷ []))) None (made_is stem n none least most ∙ fits))

-- a version of a bare name
pub with_version-stem : (base stem : List ℕ) (n : ℕ) → is_bare_name base ≡ true → 1 ≤ n → n ≤ 65534 → with_dot base ≡ stem ++ 46 ∷ []
    → (after_mark stem ≡ None) × (stored_in (stem ++ version_text n ++ (46 ∷ [])) ≡ with_version base n)
with_version-stem base stem n bare least most dotted =
    let is : base ≡ stem ++ 46 ∷ [] = sym (cond-true (last_byte base == 46) base (base ++ 46 ∷ []) (eq-eqb (last_byte base) 46 (last_byte-bare base bare))) ∙ dotted in
    let parts : (nat_le 1 (length stem) && nat_le (length stem) 38 && list_all is_name_character stem) ≡ true = sym (is_bare_name-stem stem) ∙ ap is_bare_name (sym is) ∙ bare in
    let characters : list_all is_name_character stem ≡ true = (and_parts (nat_le 1 (length stem) && nat_le (length stem) 38) (list_all is_name_character stem) parts).1 in
    let none = no_mark stem characters in
    let name : List ℕ = stem ++ version_text n ++ (46 ∷ []) in
    let same : versioned base n ≡ name = ap (λ s. s ++ version_text n ++ (46 ∷ [])) (ap but_last is ∙ but_last-push stem 46) in
    let long = length-append (stem ++ version_text n) (46 ∷ []) in
    let both = length-append stem (version_text n) in
    let tests : is_stored_name name ≡ nat_le (length name) 39 = made_is stem n none least most ∙ grind (arith, nat_tests) in
    (none, ap (λ b. cond b (Some name) None) tests ∙ (λ i. cond (nat_le (length (sym same i)) 39) (Some (sym same i)) None))

-- ---- versions in digits
abbrev pub states : List ℕ → ℕ → Bool
states digits n = nat_le 1 n && nat_le n 65534 && pointwise nat_eq digits (decimal n)

-- digits that state a version are a number
stated : (digits : List ℕ) (n : ℕ) → states digits n ≡ true → number_in digits ≡ Some n
stated digits n all =
    let parts = and_parts (nat_le 1 n && nat_le n 65534) (pointwise nat_eq digits (decimal n)) all in
    let most = (and_parts (nat_le 1 n) (nat_le n 65534) parts.0).1 in
    let fits : n ≤ 65534 = grind (arith, nat_tests) in
    ap number_in (same_text digits (decimal n) (sym parts.1)) ∙ number_in-decimal n (omega arith)

pub no_version : (digits : List ℕ) → number_in digits ≡ None → None ≡ version_in digits
no_version digits none =
    sym (cond-false (states digits (decimal_value digits)) (Some (decimal_value digits)) None (false_from_ne_true _ (λ all. let s = sym none ∙ stated digits (decimal_value digits) all in absurd cc)))

value_of : (digits : List ℕ) (n : ℕ) → number_in digits ≡ Some n → decimal_value digits ≡ n
unfolding number_in
value_of digits n is = by (nat_le 1 (length digits) && nat_le (length digits) 10 && list_all is_digit digits && nat_lt (decimal_value digits) 4294967296) is
  where
    by : (b : Bool) → cond b (Some (decimal_value digits)) None ≡ Some n → decimal_value digits ≡ n
    by true e = cc
    by false e = absurd cc

pub version_by_number : (digits : List ℕ) (n : ℕ) → number_in digits ≡ Some n → version_in digits ≡ cond (states digits n) (Some n) None
version_by_number digits n is = ap (λ v. cond (states digits v) (Some v) None) (value_of digits n is)

-- ---- a text without its final `.`
pub without_dot-stem : (text : List ℕ) (r : Option (Bor (List ℕ))) (whole : Bor (List ℕ)) → whole.now ≡ text
    → MatchOption r ((front : List ℕ) → text ≢ front ++ 46 ∷ []) (λ x. text ≡ x.now ++ 46 ∷ []) → (unwrap_or r whole).now ≡ without_dot text
without_dot-stem text None whole is none =
    let other : (last_byte text == 46) ≡ false = false_from_ne_true _ (λ e. let h = last_byte-front text (eqb-true (last_byte text) 46 e) in none h.0 h.1) in
    is ∙ sym (cond-false (last_byte text == 46) (but_last text) text other)
without_dot-stem text (Some x) whole is ends =
    let last : last_byte text ≡ 46 = ap last_byte ends ∙ last_byte-push x.now 46 in
    sym (but_last-push x.now 46) ∙ ap but_last (sym ends) ∙ sym (cond-true (last_byte text == 46) (but_last text) text (eq-eqb (last_byte text) 46 last))

-- digits that state a version are its digits
pub stated_digits : (digits : List ℕ) (n : ℕ) → version_in digits ≡ Some n → digits ≡ decimal n
stated_digits digits n is = by (states digits (decimal_value digits)) refl is
  where
    by : (b : Bool) → states digits (decimal_value digits) ≡ b → cond b (Some (decimal_value digits)) None ≡ Some n → digits ≡ decimal n
    by true e s =
        let v : decimal_value digits ≡ n = cc in
        let parts = and_parts (nat_le 1 (decimal_value digits) && nat_le (decimal_value digits) 65534) (pointwise nat_eq digits (decimal (decimal_value digits))) e in
        same_text digits (decimal (decimal_value digits)) (sym parts.1) ∙ ap decimal v
    by false e s = absurd cc

-- and a version's digits state it
pub version_in-decimal : (n : ℕ) → 1 ≤ n → n ≤ 65534 → version_in (decimal n) ≡ Some n
version_in-decimal n least most =
    let low : nat_le 1 n ≡ true = grind (arith, nat_tests) in
    let high : nat_le n 65534 ≡ true = grind (arith, nat_tests) in
    version_by_number (decimal n) n (number_in-decimal n (omega (arith, most)))
    ∙ cond-true (states (decimal n) n) (Some n) None (λ i. low i && high i && nat_list_eq_equiv.refl (decimal n) i)
