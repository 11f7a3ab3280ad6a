-- The digits of a number, in octal and in decimal.
use Rattle.std.proofs.Common.{◌≡◌, ◌⊎◌, ℕ, zero, suc, ◌+◌, ◌/◌, ◌%◌, ◌^◌, ◌<◌, ◌≤◌, Bool, true, false, cond, ◌==◌, List, [], ◌∷◌, ◌++◌, length, refl, ap, sym, ◌∙◌, inl, inr, arith, append_assoc}
use Rattle.std.specs.Fmt.{digits, digits_onto, digit_glyph}
use Rattle.std.proofs.lemmas.Bool.{cases_lt, cond-true, cond-false, eq-eqb, ne_eqb}
use Rattle.std.proofs.lemmas.Bool.Decides.{nat_tests}

-- the digits of n in octal, at most k, before acc
abbrev onto : ℕ → ℕ → List ℕ → List ℕ
onto k n acc = digits_onto k 8 false n acc

-- the last digit
abbrev last : ℕ → ℕ
last n = digit_glyph false (n % 8)

append_cases : (t : Bool) (d : ℕ) (more once acc rest : List ℕ) → more ≡ rest ++ d ∷ acc → once ≡ rest ++ d ∷ []
    → cond t (d ∷ acc) more ≡ cond t (d ∷ []) once ++ acc
append_cases true d more once acc rest e f = refl
append_cases false d more once acc rest e f = e ∙ sym (append_assoc rest (d ∷ []) acc) ∙ ap (λ x. x ++ acc) (sym f)

-- what stands after the digits stays
onto-append : (k n : ℕ) (acc : List ℕ) → onto k n acc ≡ onto k n [] ++ acc
onto-append zero n acc = refl
onto-append (suc k) n acc =
    append_cases (n / 8 == 0) (last n) (onto k (n / 8) (last n ∷ acc)) (onto k (n / 8) (last n ∷ [])) acc (onto k (n / 8) [])
    (onto-append k (n / 8) (last n ∷ acc)) (onto-append k (n / 8) (last n ∷ []))

onto-one : (k n : ℕ) (acc : List ℕ) → n < 8 → onto (suc k) n acc ≡ last n ∷ acc
onto-one k n acc small = cond-true (n / 8 == 0) (last n ∷ acc) (onto k (n / 8) (last n ∷ acc)) (eq-eqb (n / 8) 0 (omega arith))

onto-more : (k n : ℕ) (acc : List ℕ) → 8 ≤ n → onto (suc k) n acc ≡ onto k (n / 8) (last n ∷ acc)
onto-more k n acc large = cond-false (n / 8 == 0) (last n ∷ acc) (onto k (n / 8) (last n ∷ acc)) (ne_eqb (n / 8) 0 (omega arith))

below : (k n : ℕ) → n < 8 ^ suc k → n / 8 < 8 ^ k
below k n h = grind arith

-- more room adds no digit
onto-room : (k n : ℕ) (acc : List ℕ) → n < 8 ^ suc k → onto (suc (suc k)) n acc ≡ onto (suc k) n acc
onto-room zero n acc h = onto-one 1 n acc h ∙ sym (onto-one 0 n acc h)
onto-room (suc k) n acc h =
    elim (cases_lt n 8) [
      | inl small ↦ onto-one (suc (suc k)) n acc small ∙ sym (onto-one (suc k) n acc small)
      | inr large ↦ onto-more (suc (suc k)) n acc large ∙ onto-room k (n / 8) (last n ∷ acc) (below (suc k) n h) ∙ sym (onto-more (suc k) n acc large)
    ]

length_onto : (j k n : ℕ) (acc : List ℕ) → n < 8 ^ suc k → length (onto j n acc) ≤ suc k + length acc
length_onto zero k n acc h = omega arith
length_onto (suc j) zero n acc h = omega (arith, ap length (onto-one j n acc h))
length_onto (suc j) (suc k) n acc h =
    elim (cases_lt n 8) [
      | inl small ↦ omega (arith, ap length (onto-one j n acc small))
      | inr large ↦ omega (arith, ap length (onto-more j n acc large), length_onto j k (n / 8) (last n ∷ acc) (below (suc k) n h))
    ]

last_glyph : (n : ℕ) → last n ≡ 48 + n % 8
last_glyph n = grind (arith, nat_tests)

-- a number below 8 is one digit
pub octal_one : (n : ℕ) → n < 8 → digits 8 false n ≡ (48 + n % 8) ∷ []
unfolding digits
octal_one n small = onto-one 63 n [] small ∙ ap (λ d. d ∷ []) (last_glyph n)

-- a larger one is the digits of an eighth of it, and one more
pub octal_more : (n : ℕ) → 8 ≤ n → n < 2 ^ 32 → digits 8 false n ≡ digits 8 false (n / 8) ++ (48 + n % 8) ∷ []
unfolding digits
octal_more n large fits =
    onto-more 63 n [] large ∙ onto-append 63 (n / 8) (last n ∷ []) ∙ ap (λ ds. ds ++ last n ∷ []) (sym (onto-room 62 (n / 8) [] (omega arith)))
    ∙ ap (λ d. onto 64 (n / 8) [] ++ d ∷ []) (last_glyph n)

-- a number of 33 bits has at most 11 octal digits
pub length-octal-le : (n : ℕ) → n < 8 ^ 11 → length (digits 8 false n) ≤ 11
unfolding digits
length-octal-le n fits = length_onto 64 10 n [] fits

-- a number's digits, written by those of an eighth of it, where it has more than one, and then the last one
pub octal_pushed : (old now : List ℕ) (n : ℕ) → n < 2 ^ 32
    → ((8 ≤ n) × (now ≡ old ++ digits 8 false (n / 8))) ⊎ ((n < 8) × (now ≡ old)) → now ++ (48 + n % 8) ∷ [] ≡ old ++ digits 8 false n
octal_pushed old now n fits (inl w) =
    ap (λ x. x ++ (48 + n % 8) ∷ []) w.1 ∙ append_assoc old (digits 8 false (n / 8)) ((48 + n % 8) ∷ []) ∙ ap (λ ds. old ++ ds) (sym (octal_more n w.0 fits))
octal_pushed old now n fits (inr w) = ap (λ x. x ++ (48 + n % 8) ∷ []) w.1 ∙ ap (λ ds. old ++ ds) (sym (octal_one n w.0))
