-- Names that have a suffix in common, without regard to case.
use Rattle.std.proofs.Common.{◌≡◌, ℕ, zero, suc, ◌+◌, ◌-◌, ◌^◌, ◌<◌, ◌≤◌, ◌/◌, ◌%◌, true, List, [], ◌∷◌, ◌++◌, length, take, map, None, refl, sym, ap, subst, ◌∙◌, inl, inr, arith, append_assoc, length-append}
use Rattle.std.specs.Fmt.{decimal}
use Rattle.std.specs.Str.Parse.{AllDigits}
use Rattle.std.specs.Option.{option_map}
use Rattle.std.specs.List.{take-map}
use Rattle.std.proofs.lemmas.Bool.Decides.{leb_tells}
use Rattle.std.proofs.lemmas.Fmt.{decimal_digit, decimal_step, decimal_by_steps, decimal_injective}
use Rattle.std.proofs.lemmas.List.{append_cancel_right, map-append}
use Rattle.alto_words.specs.Names.{fold_case, is_same_name, base_of, after_mark, version_of, version_text, suffix_of, after_kept, suffixed}
use Rattle.alto_words.proofs.Folding.{folded, same_folded, fold_version, are_digits, fold_digits}
use Rattle.alto_words.proofs.Marks.{after_fold, unmarked_after, unmarked_take, no_mark, characters-digits}
use Rattle.alto_words.proofs.Versions.{unmarked_base, parts_alike, version_most}

-- ---- a suffix keeps no more of a name than those before it
take_fewer : (xs : List ℕ) (n m : ℕ) → n ≤ m → take n (take m xs) ≡ take n xs
take_fewer xs zero m few = refl
take_fewer xs (suc n) zero few = absurd (omega arith)
take_fewer [] (suc n) (suc m) few = refl
take_fewer (x ∷ xs) (suc n) (suc m) few = ap (λ l. x ∷ l) (take_fewer xs n m (omega arith))

-- a greater number has at least as many digits
length_decimal : (n m : ℕ) → n < 2 ^ 64 → m ≤ n → length (decimal m) ≤ length (decimal n)
length_decimal n m fits least = decimal_by_steps (λ n ds. n < 2 ^ 64 → (m : ℕ) → m ≤ n → length (decimal m) ≤ length ds) one more n fits fits m least
  where
    one : (n : ℕ) → n < 10 → n < 2 ^ 64 → (m : ℕ) → m ≤ n → length (decimal m) ≤ 1
    one n small fits m least = let e = ap length (decimal_digit m (omega arith)) in omega (arith, e)

    more : (n : ℕ) (ds : List ℕ) → 10 ≤ n → (n / 10 < 2 ^ 64 → (m : ℕ) → m ≤ n / 10 → length (decimal m) ≤ length ds) → n < 2 ^ 64 → (m : ℕ) → m ≤ n → length (decimal m) ≤ length (ds ++ ((48 + n % 10) ∷ []))
    more n ds big fewer fits m least = elim (leb_tells 10 m) as (λ _. length (decimal m) ≤ length (ds ++ ((48 + n % 10) ∷ []))) [
      | inl long ↦
          let front = fewer (omega arith) (m / 10) (omega (arith, long.1)) in
          let e = ap length (decimal_step m long.1 (omega arith)) in
          let own = length-append (decimal (m / 10)) ((48 + m % 10) ∷ []) in
          let others = length-append ds ((48 + n % 10) ∷ []) in
          omega (arith, e)
      | inr short ↦
          let e = ap length (decimal_digit m short.1) in
          let others = length-append ds ((48 + n % 10) ∷ []) in
          omega (arith, e)
    ]

fold_suffix : (k : ℕ) → k < 2 ^ 64 → map fold_case (suffix_of k) ≡ suffix_of k
fold_suffix k fits = ap (λ l. 36 ∷ l) (fold_digits (decimal k) (are_digits k fits))

-- the first characters of a base in lower case, as many as a suffix and the version leave
abbrev kept_of : List ℕ → ℕ → List ℕ
kept_of name k = take (38 - length (after_kept name k)) (map fold_case (base_of name))

-- a suffix in lower case: these, the suffix, the version and a `.`
fold_suffixed : (name : List ℕ) (k : ℕ) → k < 2 ^ 64 → map fold_case (suffixed name k) ≡ (kept_of name k ++ suffix_of k) ++ version_text (version_of name) ++ (46 ∷ [])
unfolding suffixed
fold_suffixed name k fits =
    let n = 38 - length (after_kept name k) in
    let v : List ℕ = version_text (version_of name) in
    map-append fold_case (take n (base_of name) ++ (suffix_of k ++ v)) (46 ∷ [])
    ∙ ap (λ l. l ++ 46 ∷ []) (
    map-append fold_case (take n (base_of name)) (suffix_of k ++ v)
    ∙ (λ i. sym (take-map fold_case n (base_of name)) i ++ (map-append fold_case (suffix_of k) v ∙ (λ j. fold_suffix k fits j ++ fold_version (version_of name) (version_most name) j)) i)
    ∙ sym (append_assoc (kept_of name k) (suffix_of k) v)
    )

unmarked_kept : (name : List ℕ) (k : ℕ) → k < 2 ^ 64 → after_mark (kept_of name k ++ suffix_of k) ≡ None
unmarked_kept name k fits =
    unmarked_after (kept_of name k) (suffix_of k)
    (unmarked_take (38 - length (after_kept name k)) (map fold_case (base_of name)) (after_fold (base_of name) ∙ ap (option_map (map fold_case)) (unmarked_base name)))
    ∙ no_mark (decimal k) (characters-digits 10 (decimal k) (omega arith) (are_digits k fits))

-- names with a suffix in common have one version, and what the suffix keeps of them in common
record Common (a b : List ℕ) (m n : ℕ) : Type 0 where
  pub front : kept_of a m ++ suffix_of m ≡ kept_of b n ++ suffix_of n
  pub version : version_of a ≡ version_of b

common : (a b : List ℕ) (m n : ℕ) → m < 2 ^ 64 → n < 2 ^ 64 → is_same_name (suffixed a m) (suffixed b n) ≡ true → Common a b m n
common a b m n fits fit same =
    let e = sym (fold_suffixed a m fits) ∙ folded (suffixed a m) (suffixed b n) same ∙ fold_suffixed b n fit in
    let parts = parts_alike (kept_of a m ++ suffix_of m) (kept_of b n ++ suffix_of n) (version_of a) (version_of b) (unmarked_kept a m fits) (unmarked_kept b n fit) (version_most a) (version_most b) e in
    record { front = parts.0; version = parts.1 }

-- names that have a suffix in common have the later ones in common
pub same_later : (a b : List ℕ) (first k : ℕ) → first ≤ k → k < 2 ^ 64 → is_same_name (suffixed a first) (suffixed b first) ≡ true → is_same_name (suffixed a k) (suffixed b k) ≡ true
same_later a b first k later fits same =
    let h = common a b first first (omega arith) (omega arith) same in
    let v = h.version in
    let after : (j : ℕ) → after_kept b j ≡ after_kept a j = λ j. ap (λ n. suffix_of j ++ version_text n) (sym v) in
    let m = 38 - length (after_kept a first) in
    let n = 38 - length (after_kept a k) in
    let other : (j : ℕ) → kept_of b j ≡ take (38 - length (after_kept a j)) (map fold_case (base_of b)) = λ j. ap (λ l. take (38 - length l) (map fold_case (base_of b))) (after j) in
    let front : take m (map fold_case (base_of a)) ≡ take m (map fold_case (base_of b)) = append_cancel_right _ _ (suffix_of first) h.front ∙ other first in
    let digits = length_decimal k first fits later in
    let one = length-append (suffix_of first) (version_text (version_of a)) in
    let two = length-append (suffix_of k) (version_text (version_of a)) in
    let short : n ≤ m = omega (arith, digits, one, two) in
    let fronts : take n (map fold_case (base_of a)) ≡ take n (map fold_case (base_of b)) =
    sym (take_fewer (map fold_case (base_of a)) n m short) ∙ ap (take n) front ∙ take_fewer (map fold_case (base_of b)) n m short in
    same_folded (suffixed a k) (suffixed b k) (
    fold_suffixed a k fits
    ∙ (λ i. ((fronts ∙ sym (other k)) i ++ suffix_of k) ++ version_text (v i) ++ (46 ∷ []))
    ∙ sym (fold_suffixed b k fits)
    )

-- ---- names with suffixes of two numbers differ
no_dollar : (front back : List ℕ) → AllDigits 10 (front ++ (36 ∷ back)) → ⊥
no_dollar [] back all = omega (arith, all.0)
no_dollar (c ∷ front) back all = no_dollar front back all.1

-- the digits at the end are after the last `$`
same_digits : (xs ys ds es : List ℕ) → AllDigits 10 ds → AllDigits 10 es → xs ++ (36 ∷ ds) ≡ ys ++ (36 ∷ es) → ds ≡ es
same_digits [] [] ds es all every e = cc
same_digits [] (y ∷ ys) ds es all every e = let rest : ds ≡ ys ++ (36 ∷ es) = cc in absurd (no_dollar ys es (subst (AllDigits 10) rest all))
same_digits (x ∷ xs) [] ds es all every e = let rest : es ≡ xs ++ (36 ∷ ds) = cc in absurd (no_dollar xs ds (subst (AllDigits 10) rest every))
same_digits (x ∷ xs) (y ∷ ys) ds es all every e = let rest : xs ++ (36 ∷ ds) ≡ ys ++ (36 ∷ es) = cc in same_digits xs ys ds es all every rest

pub same_numbers : (a b : List ℕ) (m n : ℕ) → m < 2 ^ 64 → n < 2 ^ 64 → is_same_name (suffixed a m) (suffixed b n) ≡ true → m ≡ n
same_numbers a b m n fits fit same =
    decimal_injective m n fits fit (same_digits _ _ (decimal m) (decimal n) (are_digits m fits) (are_digits n fit) (common a b m n fits fit same).front)
