-- Names without regard to case.
use Rattle.std.proofs.Common.{◌≡◌, ◌↔◌, ℕ, ◌^◌, ◌<◌, ◌≤◌, Bool, true, false, cond, ◌==◌, nat_eq, List, [], ◌∷◌, ◌++◌, length, map, None, Less, Equal, Greater, Ordering, refl, ap, sym, ◌∙◌, arith}
use Rattle.std.specs.Char.{to_ascii_lowercase, digit_value}
use Rattle.std.specs.Fmt.{decimal}
use Rattle.std.specs.Str.Parse.{AllDigits}
use Rattle.std.proofs.lemmas.Fmt.{decimal_is_IsNumeral}
use Rattle.std.specs.Cmp.{IsTotalOrder}
use Rattle.std.specs.Cmp.Lexicographic.{slice_cmp, pointwise, texts_ties, same_text, nat_list_eq_equiv}
use Rattle.std.proofs.lemmas.Bool.{false≢true, and_parts, eqb-true}
use Rattle.std.proofs.lemmas.Cmp.{on_total, nat_list_cmp_total, tied_itself, nat_cmp_total}
use Rattle.std.specs.Cmp.{then_total}
use Rattle.std.specs.Option.{option_map}
use Rattle.std.proofs.lemmas.List.{map-append, length-map}
use Rattle.std.specs.Ordering.{nat_cmp, is_eq, ordering_then}
use Rattle.std.proofs.lemmas.Bool.Decides.{nat_tests}
use Rattle.alto_words.specs.Names.{fold_case, folded_cmp, version_cmp, is_same_name, is_bare_name, base_of, base_by, version_of, version_text, after_mark}
use Rattle.alto_words.proofs.Versions.{bare_unmarked}
use Rattle.alto_words.proofs.Marks.{after_fold}

-- std's lower case is the one of names
fold_case-lowercase : (c : ℕ) → to_ascii_lowercase c ≡ fold_case c
fold_case-lowercase c = grind (arith, nat_tests)

pub map-lowercase : (text : List ℕ) → map to_ascii_lowercase text ≡ map fold_case text
map-lowercase [] = refl
map-lowercase (c ∷ text) = (λ i. fold_case-lowercase c i ∷ map-lowercase text i)

-- digits, and so versions, have no case
pub fold_digits : (ds : List ℕ) → AllDigits 10 ds → map fold_case ds ≡ ds
fold_digits [] all = refl
fold_digits (c ∷ ds) all = (λ i. fold_digit c (all.0) i ∷ fold_digits ds all.1 i)
  where
    fold_digit : (c : ℕ) → digit_value c < 10 → fold_case c ≡ c
    fold_digit c digit = grind (arith, nat_tests)

pub are_digits : (k : ℕ) → k < 2 ^ 64 → AllDigits 10 (decimal k)
are_digits k fits = (decimal_is_IsNumeral k fits).0.1

pub fold_version : (n : ℕ) → n ≤ 65534 → map fold_case (version_text n) ≡ version_text n
fold_version n fits = by (n == 1)
  where
    by : (b : Bool) → map fold_case (cond b [] (33 ∷ decimal n)) ≡ cond b [] (33 ∷ decimal n)
    by true = refl
    by false = ap (λ l. 33 ∷ l) (fold_digits (decimal n) (are_digits n (omega arith)))

-- names that are the same are one in lower case
pub folded : (a b : List ℕ) → is_same_name a b ≡ true → map fold_case a ≡ map fold_case b
folded a b same = same_text (map fold_case a) (map fold_case b) (sym same)

pub same_folded : (a b : List ℕ) → map fold_case a ≡ map fold_case b → is_same_name a b ≡ true
same_folded a b e = ap (λ l. pointwise nat_eq l (map fold_case b)) e ∙ nat_list_eq_equiv.refl (map fold_case b)

-- the order is that of bases, versions and bytes, seen in lower case
pub version_cmp-total : IsTotalOrder version_cmp
version_cmp-total = then_total (on_total base_of nat_list_cmp_total) (then_total (on_total version_of nat_cmp_total) nat_list_cmp_total)

pub folded_cmp-total : IsTotalOrder folded_cmp
folded_cmp-total = on_total (map fold_case) version_cmp-total

prefix_cmp : (a b rest : List ℕ) → pointwise nat_eq a b ≡ true → 0 < length rest → slice_cmp nat_cmp a (b ++ rest) ≡ Less
prefix_cmp [] [] [] same some = absurd (omega arith)
prefix_cmp [] [] (c ∷ rest) same some = refl
prefix_cmp [] (y ∷ b) rest same some = refl
prefix_cmp (x ∷ a) [] rest same some = absurd (false≢true same)
prefix_cmp (x ∷ a) (y ∷ b) rest same some =
    let parts = and_parts (x == y) (pointwise nat_eq a b) same in
    let heads : nat_cmp x y ≡ Equal = ap (nat_cmp x) (sym (eqb-true x y parts.0)) ∙ tied_itself nat_cmp_total x in
    ap (λ o. ordering_then o (slice_cmp nat_cmp a (b ++ rest))) heads ∙ prefix_cmp a b rest parts.1 some

-- a bare name in lower case is its own base
base_folded : (name : List ℕ) → after_mark name ≡ None → base_of (map fold_case name) ≡ map fold_case name
base_folded name none = ap (base_by (map fold_case name)) (after_fold name ∙ ap (option_map (map fold_case)) none)

-- a bare name comes before a longer one that begins with it
pub folded_cmp-prefix : (name front rest : List ℕ) → is_bare_name name ≡ true → is_bare_name (front ++ rest) ≡ true → is_same_name name front ≡ true → 0 < length rest → folded_cmp name (front ++ rest) ≡ Less
folded_cmp-prefix name front rest bare whole same some =
    let bases : slice_cmp nat_cmp (base_of (map fold_case name)) (base_of (map fold_case (front ++ rest))) ≡ Less =
    (λ i. slice_cmp nat_cmp (base_folded name (bare_unmarked name bare) i) (base_folded (front ++ rest) (bare_unmarked (front ++ rest) whole) i))
    ∙ ap (slice_cmp nat_cmp (map fold_case name)) (map-append fold_case front rest)
    ∙ prefix_cmp (map fold_case name) (map fold_case front) (map fold_case rest) same (omega (arith, length-map rest fold_case)) in
    ap (λ o. ordering_then o (ordering_then (nat_cmp (version_of (map fold_case name)) (version_of (map fold_case (front ++ rest)))) (slice_cmp nat_cmp (map fold_case name) (map fold_case (front ++ rest))))) bases

is_eq-equal : (o : Ordering) → is_eq o ≡ true → o ≡ Equal
is_eq-equal Less e = absurd (false≢true e)
is_eq-equal Equal e = refl
is_eq-equal Greater e = absurd (false≢true e)

pub tied : (a b : List ℕ) → (slice_cmp nat_cmp a b ≡ Equal) ↔ (pointwise nat_eq a b ≡ true)
tied a b = (λ e. texts_ties a b ∙ ap is_eq e, λ e. is_eq-equal (slice_cmp nat_cmp a b) (sym (texts_ties a b) ∙ e))

-- where three orders tie, the last one does
last_ties : (a b c : Ordering) → ordering_then a (ordering_then b c) ≡ Equal → c ≡ Equal
last_ties Less b c e = cc
last_ties Greater b c e = cc
last_ties Equal Less c e = cc
last_ties Equal Greater c e = cc
last_ties Equal Equal c e = e

-- names are tied if and only if they are the same
pub folded_cmp-equal : (a b : List ℕ) → (folded_cmp a b ≡ Equal) ↔ (is_same_name a b ≡ true)
folded_cmp-equal a b = (
  λ e. (tied (map fold_case a) (map fold_case b)).0 (last_ties _ _ _ e),
  λ same. ap (version_cmp (map fold_case a)) (sym (folded a b same)) ∙ tied_itself version_cmp-total (map fold_case a),
)
