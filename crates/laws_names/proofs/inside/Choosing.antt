-- The name that settling gives isn't taken, since there are more suffixes than names.
use Rattle.std.proofs.Common.{◌&&◌, ◌+◌, ◌<◌, ◌||◌, ◌∙◌, ◌∷◌, ◌≡◌, ◌≤◌, ◌⊎◌, Bool, List, [], ap, arith, false, inl, inr, length, map, refl, suc, sym, true, zero, ℕ}
use Rattle.std.proofs.lemmas.Bool.{cases_eq}
use Rattle.std.proofs.lemmas.Map.Made.{length-le_from_is_member}
use Rattle.std.proofs.lemmas.Map.Steps.{list_any_congr}
use Rattle.std.specs.Cmp.{IsEquivalence}
use Rattle.std.specs.FinMap.{FinMap, entries}
use Rattle.std.specs.List.{AllByRecursion, IsDistinct, list_any}
use Rattle.laws_mend.specs.alto_words.proofs.Alike.{same_numbers}
use Rattle.laws_mend.specs.alto_words.specs.Fid.{fid_cmp, is_fid, sys_dir}
use Rattle.laws_mend.specs.alto_words.specs.Names.{fold_case, is_same_name, suffixed}
use Rattle.laws_mend.specs.alto_words.specs.declared.fid.Fid.{Fid}
use Rattle.laws_mend.specs.pack_model.specs.reading.Namings.{descriptor_name, sys_dir_name}
use Rattle.laws_mend.specs.pack_model.specs.showing.Settling.{choice, chosen, chosen_from, is_taken, most_suffixes}
use Rattle.laws_mend.specs.pack_model.specs.showing.View.{Home}
use Rattle.laws_mend.specs.laws_record.proofs.Fitting.{same_equiv, same_sym, same_trans}

-- ---- names that are taken
names_equiv : IsEquivalence is_same_name
names_equiv = record { refl = λ a. same_equiv.refl (map fold_case a); symm = same_sym; congr = same_trans }

-- they are among these
known : FinMap fid_cmp Home → List (List ℕ)
known names = sys_dir_name ∷ descriptor_name ∷ map (λ (e : Fid × Home). e.1.name) (entries names)

known_many : (names : FinMap fid_cmp Home) → length (known names) ≡ 2 + length (entries names)
unfolding known
known_many names = let z : suc (suc (length (entries names))) ≡ 2 + length (entries names) = omega arith in ap (λ n. suc (suc n)) (as_many (entries names)) ∙ z
  where
    as_many : (es : List (Fid × Home)) → length (map (λ (e : Fid × Home). e.1.name) es) ≡ length es
    as_many [] = refl
    as_many (e ∷ es) = ap suc (as_many es)

taken_known : (names : FinMap fid_cmp Home) (name : List ℕ) → is_taken names name ≡ true → list_any (is_same_name name) (known names) ≡ true
unfolding known
taken_known names name e =
    by (is_same_name name sys_dir_name) (is_same_name name descriptor_name) (list_any (λ (e : Fid × Home). is_fid e.1.dir sys_dir && is_same_name name e.1.name) (entries names)) (list_any (is_same_name name) (map (λ (e : Fid × Home). e.1.name) (entries names))) (among (entries names)) e
  where
    by : (a b c d : Bool) → (c ≡ true → d ≡ true) → (a || b || c) ≡ true → (a || (b || d)) ≡ true
    by true b c d g h = refl
    by false true c d g h = refl
    by false false c d g h = g h

    among : (es : List (Fid × Home)) → list_any (λ (e : Fid × Home). is_fid e.1.dir sys_dir && is_same_name name e.1.name) es ≡ true → list_any (is_same_name name) (map (λ (e : Fid × Home). e.1.name) es) ≡ true
    among [] h = h
    among (y ∷ es) h = one (is_fid y.1.dir sys_dir) (is_same_name name y.1.name) (list_any (λ (e : Fid × Home). is_fid e.1.dir sys_dir && is_same_name name e.1.name) es) (list_any (is_same_name name) (map (λ (e : Fid × Home). e.1.name) es)) (among es) h
      where
        one : (a b c d : Bool) → (c ≡ true → d ≡ true) → ((a && b) || c) ≡ true → (b || d) ≡ true
        one a true c d g h = refl
        one true false c d g h = g h
        one false false c d g h = g h

-- ---- suffixes
-- the first so many, the last first
suffixes : List ℕ → ℕ → List (List ℕ)
suffixes base zero = []
suffixes base (suc n) = suffixed base (suc n) ∷ suffixes base n

suffixes_many : (base : List ℕ) (n : ℕ) → length (suffixes base n) ≡ n
unfolding suffixes
suffixes_many base zero = refl
suffixes_many base (suc n) = ap suc (suffixes_many base n)

-- no two are one name
one_apart : (base : List ℕ) (m n : ℕ) → n < m → m ≤ 65535 → AllByRecursion (λ y. is_same_name (suffixed base m) y ≡ false) (suffixes base n)
unfolding suffixes
one_apart base m zero l few = tt
one_apart base m (suc n) l few = (by (is_same_name (suffixed base m) (suffixed base (suc n))) refl, one_apart base m n (omega arith) few)
  where
    by : (b : Bool) → is_same_name (suffixed base m) (suffixed base (suc n)) ≡ b → is_same_name (suffixed base m) (suffixed base (suc n)) ≡ false
    by false e = e
    by true e = absurd (let z : m ≡ suc n = same_numbers base base m (suc n) (omega arith) (omega arith) e in omega arith)

all_apart : (base : List ℕ) (n : ℕ) → n ≤ 65535 → IsDistinct is_same_name (suffixes base n)
unfolding IsDistinct suffixes
all_apart base zero few = tt
all_apart base (suc n) few = (one_apart base (suc n) n (omega arith) few, all_apart base n (omega arith))

-- so not all of them are taken, if there are more than names
module _ (names : FinMap fid_cmp Home) (base : List ℕ) where
  among : (n : ℕ) → ((k : ℕ) → 1 ≤ k → k ≤ n → is_taken names (suffixed base k) ≡ true) → (q : List ℕ) → list_any (is_same_name q) (suffixes base n) ≡ true → list_any (is_same_name q) (known names) ≡ true
  unfolding suffixes
  among zero taken q e = absurd cc
  among (suc n) taken q e = by (is_same_name q (suffixed base (suc n))) refl e (λ h. among n (λ k low high. taken k low (omega arith)) q h)
    where
      by : (b : Bool) → is_same_name q (suffixed base (suc n)) ≡ b → (b || list_any (is_same_name q) (suffixes base n)) ≡ true → (list_any (is_same_name q) (suffixes base n) ≡ true → list_any (is_same_name q) (known names) ≡ true) → list_any (is_same_name q) (known names) ≡ true
      by true same e again = list_any_congr names_equiv q (suffixed base (suc n)) (known names) same ∙ taken_known names (suffixed base (suc n)) (taken (suc n) (omega arith) (omega arith))
      by false same e again = again e

  taken_few : (n : ℕ) → n ≤ 65535 → ((k : ℕ) → 1 ≤ k → k ≤ n → is_taken names (suffixed base k) ≡ true) → n ≤ 2 + length (entries names)
  taken_few n few taken =
      let l = length-le_from_is_member names_equiv (suffixes base n) (known names) (all_apart base n few) (among n taken) in
      let a = suffixes_many base n in
      let b = known_many names in
      omega arith

  -- one of some is free, or all are taken
  search : (n : ℕ) → ((k : ℕ) × (1 ≤ k) × (k ≤ n) × (is_taken names (suffixed base k) ≡ false)) ⊎ ((k : ℕ) → 1 ≤ k → k ≤ n → is_taken names (suffixed base k) ≡ true)
  search zero = inr (λ k low high. absurd (omega arith))
  search (suc n) = by (search n) (is_taken names (suffixed base (suc n))) refl
    where
      by : ((k : ℕ) × (1 ≤ k) × (k ≤ n) × (is_taken names (suffixed base k) ≡ false)) ⊎ ((k : ℕ) → 1 ≤ k → k ≤ n → is_taken names (suffixed base k) ≡ true) → (b : Bool) → is_taken names (suffixed base (suc n)) ≡ b
          → ((k : ℕ) × (1 ≤ k) × (k ≤ suc n) × (is_taken names (suffixed base k) ≡ false)) ⊎ ((k : ℕ) → 1 ≤ k → k ≤ suc n → is_taken names (suffixed base k) ≡ true)
      by (inl one) b e = inl (one.0, one.1, (let l = one.2 in omega arith), one.3)
      by (inr all) false e = inl (suc n, omega arith, omega arith, e)
      by (inr all) true e = inr (λ k low high. elim (cases_eq k (suc n)) [ inl same ↦ ap (λ j. is_taken names (suffixed base j)) same ∙ e | inr other ↦ all k low (omega arith) ])

  -- a choice that is free
  pub free_choice : length (entries names) ≤ 65000 → (k : ℕ) × (k < 65535) × (is_taken names (choice base k) ≡ false)
  free_choice few = by (search (3 + length (entries names)))
    where
      named : (k : ℕ) → 1 ≤ k → is_taken names (suffixed base k) ≡ false → is_taken names (choice base k) ≡ false
      named zero some e = absurd (omega arith)
      named (suc k) some e = e

      by : ((k : ℕ) × (1 ≤ k) × (k ≤ 3 + length (entries names)) × (is_taken names (suffixed base k) ≡ false)) ⊎ ((k : ℕ) → 1 ≤ k → k ≤ 3 + length (entries names) → is_taken names (suffixed base k) ≡ true) → (k : ℕ) × (k < 65535) × (is_taken names (choice base k) ≡ false)
      by (inl one) = (one.0, (let l = one.2 in omega arith), named one.0 one.1 one.3)
      by (inr all) = absurd (let l = taken_few (3 + length (entries names)) (omega arith) all in omega arith)

-- ---- the first choice that is free
free_from : (fuel : ℕ) (taken : List ℕ → Bool) (name : List ℕ) (k j : ℕ) → k ≤ j → j < k + fuel → taken (choice name j) ≡ false → taken (chosen_from fuel taken name k) ≡ false
free_from zero taken name k j low high e = absurd (omega arith)
free_from (suc fuel) taken name k j low high e = by (taken (choice name k)) refl (λ l. free_from fuel taken name (suc k) j l (omega arith) e)
  where
    by : (b : Bool) → taken (choice name k) ≡ b → (suc k ≤ j → taken (chosen_from fuel taken name (suc k)) ≡ false) → taken (chosen_from (suc fuel) taken name k) ≡ false
    by false is again = ap taken (ap (λ b. elim b as (λ _. List ℕ) [ false ↦ choice name k | true ↦ chosen_from fuel taken name (suc k) ]) is) ∙ is
    by true is again = ap taken (ap (λ b. elim b as (λ _. List ℕ) [ false ↦ choice name k | true ↦ chosen_from fuel taken name (suc k) ]) is) ∙ elim (cases_eq k j) [
      | inl same ↦ absurd (let c : true ≡ false = sym is ∙ ap (λ n. taken (choice name n)) same ∙ e in cc)
      | inr other ↦ again (omega arith)
    ]

pub chosen_is_free : (names : FinMap fid_cmp Home) (base : List ℕ) → length (entries names) ≤ 65000 → is_taken names (chosen names base) ≡ false
unfolding chosen most_suffixes
chosen_is_free names base few = let f = free_choice names base few in free_from 65535 (is_taken names) base 0 f.0 (omega arith) (omega (arith, f.1)) f.2
