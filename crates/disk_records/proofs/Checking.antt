-- A check of what was read.
use Rattle.std.proofs.Common.{◌≡◌, ◌≢◌, ℕ, zero, suc, ◌+◌, ◌==◌, ◌||◌, Bool, true, false, cond, not, List, [], ◌∷◌, length, refl, ap, ◌∙◌, Option, Some, None, arith}
use Rattle.std.specs.List.{zip, position_from}
use Rattle.std.proofs.lemmas.Bool.Decides.{nat_tests}
use Rattle.disk_records.specs.declared.records.Sector.{Sector}
use Rattle.disk_records.specs.declared.records.Act.TheVariants.{Check, Write}
use Rattle.disk_records.specs.Words.{word}
use Rattle.disk_records.specs.Checks.{mismatch_from, mismatch}

rest_none : (i : ℕ) (b : Bool) (rest : Option ℕ) → cond b rest (Some i) ≡ None → rest ≡ None
rest_none i true rest none = none
rest_none i false rest none = cc

-- words match themselves
pub no_mismatch : (i : ℕ) (xs : List ℕ) → mismatch_from i xs xs ≡ None
no_mismatch i [] = refl
no_mismatch i (x ∷ xs) = let rest = no_mismatch (i + 1) xs in grind (arith, nat_tests, rest)

-- a header and a label that are those of the disk match it
pub same_front : (memory disk : Sector) → memory.header ≡ disk.header → memory.label ≡ disk.label → mismatch (record { header = Check; label = Check; value = Write }) memory disk ≡ None
same_front memory disk header label = rw (header, label, no_mismatch 0 disk.header, no_mismatch 0 disk.label) refl

-- a word of memory that isn't 0 is matched by an equal one alone
pub matched_word : (i : ℕ) (memory disk : List ℕ) (k : ℕ) → mismatch_from i memory disk ≡ None → word memory k ≢ 0 → word disk k ≡ word memory k
matched_word i [] disk k none some = absurd (some refl)
matched_word i (m ∷ memory) [] zero none some = grind (arith, nat_tests)
matched_word i (m ∷ memory) (d ∷ disk) zero none some = grind (arith, nat_tests)
matched_word i (m ∷ memory) [] (suc k) none some = matched_word (i + 1) memory [] k (rest_none i (m == 0) _ none) some
matched_word i (m ∷ memory) (d ∷ disk) (suc k) none some = matched_word (i + 1) memory disk k (rest_none i ((m == 0) || (m == d)) _ none) some

-- and the record matches where each such word is equal
pub all_matched : (i : ℕ) (memory disk : List ℕ) → ((k : ℕ) → word memory k ≢ 0 → word disk k ≡ word memory k) → mismatch_from i memory disk ≡ None
all_matched i [] disk h = refl
all_matched i (m ∷ memory) [] h =
    let first = h zero in
    let rest = all_matched (i + 1) memory [] (λ k. h (suc k)) in
    grind (arith, nat_tests)
all_matched i (m ∷ memory) (d ∷ disk) h =
    let first = h zero in
    let rest = all_matched (i + 1) memory disk (λ k. h (suc k)) in
    grind (arith, nat_tests)

-- ---- the search of the words in pairs
abbrev pub differs : ℕ × ℕ → Bool
differs pair = not (pair.0 == 0 || pair.0 == pair.1)

turned : (b : Bool) (i : ℕ) (rest : Option ℕ) → cond (not b) (Some i) rest ≡ cond b rest (Some i)
turned true i rest = refl
turned false i rest = refl

pub first_pair : (i : ℕ) (memory disk : List ℕ) → length memory ≡ length disk → position_from differs i (zip memory disk) ≡ mismatch_from i memory disk
first_pair i [] disk same = refl
first_pair i (m ∷ memory) [] same = absurd (omega arith)
first_pair i (m ∷ memory) (d ∷ disk) same =
    turned (m == 0 || m == d) i (position_from differs (i + 1) (zip memory disk))
    ∙ ap (λ rest. cond (m == 0 || m == d) rest (Some i)) (first_pair (i + 1) memory disk (omega arith))
