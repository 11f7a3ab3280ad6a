-- How stored names are ordered: by base and by version alone.
use Rattle.std.proofs.Common.{◌≢◌, ◌≡◌, ◌↔◌, ℕ, ◌<◌, Bool, true, false, cond, nat_lt, ◌==◌, List, [], ◌∷◌, ◌++◌, map, Option, Some, None, Less, Equal, Greater, Ordering, refl, ap, sym, ◌∙◌, arith}
use Rattle.std.specs.Char.{to_ascii_lowercase}
use Rattle.std.specs.Cmp.Lexicographic.{slice_cmp, same_text}
use Rattle.std.specs.Option.{option_map}
use Rattle.std.specs.Ordering.{nat_cmp, ordering_then}
use Rattle.std.proofs.lemmas.Bool.{cond-true}
use Rattle.std.proofs.lemmas.Bool.Decides.{nat_tests}
use Rattle.std.proofs.lemmas.List.{map-append, append_cancel_right}
use Rattle.alto_words.specs.Names.{fold_case, folded_cmp, is_same_name, is_stored_name, before_mark, after_mark, base_by, base_of, version_of, version_text}
use Rattle.alto_words.proofs.Folding.{map-lowercase, fold_version, tied, folded, same_folded}
use Rattle.alto_words.proofs.Marks.{no_mark, after_fold, before_fold}
use Rattle.alto_words.proofs.Versions.{StoredParts, stored_parts, version_is}

-- ---- bases and versions in lower case
pub fold_base : (name : List ℕ) → base_of (map fold_case name) ≡ map fold_case (base_of name)
fold_base name = ap (base_by (map fold_case name)) (after_fold name) ∙ by (after_mark name)
  where
    by : (o : Option (List ℕ)) → base_by (map fold_case name) (option_map (map fold_case) o) ≡ map fold_case (base_by name o)
    by None = refl
    by (Some after) = ap (λ l. l ++ 46 ∷ []) (before_fold name) ∙ sym (map-append fold_case (before_mark name) (46 ∷ []))

fold_name : (name : List ℕ) (parts : StoredParts name) → map fold_case name ≡ map fold_case parts.stem ++ version_text (version_of name) ++ (46 ∷ [])
fold_name name parts =
    let v : List ℕ = version_text (version_of name) in
    ap (map fold_case) parts.is
    ∙ map-append fold_case (parts.stem ++ v) (46 ∷ [])
    ∙ ap (λ l. l ++ 46 ∷ []) (map-append fold_case parts.stem v ∙ ap (λ l. map fold_case parts.stem ++ l) (fold_version (version_of name) parts.most))

fold_version_of : (name : List ℕ) → is_stored_name name ≡ true → version_of (map fold_case name) ≡ version_of name
fold_version_of name stored =
    let parts = stored_parts name stored in
    ap version_of (fold_name name parts)
    ∙ version_is (map fold_case parts.stem) (version_of name) (after_fold parts.stem ∙ ap (option_map (map fold_case)) (no_mark parts.stem parts.characters)) parts.most

-- stored names with one base and one version are one
pub same_by_parts : (a b : List ℕ) → is_stored_name a ≡ true → is_stored_name b ≡ true → map fold_case (base_of a) ≡ map fold_case (base_of b) → version_of a ≡ version_of b → map fold_case a ≡ map fold_case b
same_by_parts a b one other bases versions =
    let p = stored_parts a one in
    let q = stored_parts b other in
    let stems : map fold_case p.stem ≡ map fold_case q.stem =
    append_cancel_right (map fold_case p.stem) (map fold_case q.stem) (46 ∷ [])
    (sym (map-append fold_case p.stem (46 ∷ [])) ∙ ap (map fold_case) (sym p.base) ∙ bases ∙ ap (map fold_case) q.base ∙ map-append fold_case q.stem (46 ∷ [])) in
    fold_name a p ∙ (λ i. stems i ++ version_text (versions i) ++ (46 ∷ [])) ∙ sym (fold_name b q)

-- ---- the order
-- where two orders leave nothing to a third
third_ties : (x y z : Ordering) → (x ≡ Equal → y ≡ Equal → z ≡ Equal) → ordering_then x (ordering_then y z) ≡ ordering_then x y
third_ties Less y z h = refl
third_ties Greater y z h = refl
third_ties Equal Less z h = refl
third_ties Equal Greater z h = refl
third_ties Equal Equal z h = h refl refl

nat_tied : (m n : ℕ) → nat_cmp m n ≡ Equal → m ≡ n
nat_tied m n e = by (nat_lt m n) refl (m == n) refl e
  where
    by : (l : Bool) → nat_lt m n ≡ l → (s : Bool) → (m == n) ≡ s → cond l Less (cond s Equal Greater) ≡ Equal → m ≡ n
    by true lower s same e = absurd cc
    by false lower true same e = grind (arith, nat_tests)
    by false lower false same e = absurd cc

-- stored names are ordered by their bases in lower case, and then by their versions
pub folded_cmp-parts : (a b : List ℕ) → is_stored_name a ≡ true → is_stored_name b ≡ true
    → folded_cmp a b ≡ ordering_then (slice_cmp nat_cmp (map fold_case (base_of a)) (map fold_case (base_of b))) (nat_cmp (version_of a) (version_of b))
folded_cmp-parts a b one other =
    let x = slice_cmp nat_cmp (map fold_case (base_of a)) (map fold_case (base_of b)) in
    let y = nat_cmp (version_of a) (version_of b) in
    let z = slice_cmp nat_cmp (map fold_case a) (map fold_case b) in
    let bases : slice_cmp nat_cmp (base_of (map fold_case a)) (base_of (map fold_case b)) ≡ x = λ i. slice_cmp nat_cmp (fold_base a i) (fold_base b i) in
    let versions : nat_cmp (version_of (map fold_case a)) (version_of (map fold_case b)) ≡ y = λ i. nat_cmp (fold_version_of a one i) (fold_version_of b other i) in
    (λ i. ordering_then (bases i) (ordering_then (versions i) z))
    ∙ third_ties x y z (λ e f. all_tied e f)
  where
    all_tied : slice_cmp nat_cmp (map fold_case (base_of a)) (map fold_case (base_of b)) ≡ Equal → nat_cmp (version_of a) (version_of b) ≡ Equal → slice_cmp nat_cmp (map fold_case a) (map fold_case b) ≡ Equal
    all_tied e f =
        let bases = same_text (map fold_case (base_of a)) (map fold_case (base_of b)) (sym ((tied (map fold_case (base_of a)) (map fold_case (base_of b))).0 e)) in
        let whole = same_by_parts a b one other bases (nat_tied (version_of a) (version_of b) f) in
        (tied (map fold_case a) (map fold_case b)).1 (same_folded a b whole)

-- as a call finds them, in std's lower case
pub folded_cmp-found : (a b : List ℕ) → is_stored_name a ≡ true → is_stored_name b ≡ true
    → ordering_then (slice_cmp nat_cmp (map to_ascii_lowercase (base_of a)) (map to_ascii_lowercase (base_of b))) (nat_cmp (version_of a) (version_of b)) ≡ folded_cmp a b
folded_cmp-found a b one other =
    (λ i. ordering_then (slice_cmp nat_cmp (map-lowercase (base_of a) i) (map-lowercase (base_of b) i)) (nat_cmp (version_of a) (version_of b)))
    ∙ sym (folded_cmp-parts a b one other)

-- stored names are the same where their bases are and their versions are equal, and only there
pub same_parts : (a b : List ℕ) → is_stored_name a ≡ true → is_stored_name b ≡ true → (is_same_name a b ≡ true) ↔ ((is_same_name (base_of a) (base_of b) ≡ true) × (version_of a ≡ version_of b))
same_parts a b one other = (
  λ same. let e = folded a b same in (
    same_folded (base_of a) (base_of b) (sym (fold_base a) ∙ ap base_of e ∙ fold_base b),
    sym (fold_version_of a one) ∙ ap version_of e ∙ fold_version_of b other,
  ),
  λ parts. same_folded a b (same_by_parts a b one other (folded (base_of a) (base_of b) parts.0) parts.1),
)

-- of one base the newer version comes later
pub folded_cmp-newer : (a b : List ℕ) → is_stored_name a ≡ true → is_stored_name b ≡ true → is_same_name (base_of a) (base_of b) ≡ true → version_of a < version_of b → folded_cmp a b ≡ Less
folded_cmp-newer a b one other same newer =
    let lower : nat_lt (version_of a) (version_of b) ≡ true = grind (arith, nat_tests) in
    folded_cmp-parts a b one other
    ∙ ap (λ o. ordering_then o (nat_cmp (version_of a) (version_of b))) ((tied (map fold_case (base_of a)) (map fold_case (base_of b))).1 same)
    ∙ cond-true (nat_lt (version_of a) (version_of b)) Less (cond (version_of a == version_of b) Equal Greater) lower

-- where the bases differ they alone decide
pub folded_cmp-apart : (a b : List ℕ) → slice_cmp nat_cmp (map to_ascii_lowercase (base_of a)) (map to_ascii_lowercase (base_of b)) ≢ Equal
    → slice_cmp nat_cmp (map to_ascii_lowercase (base_of a)) (map to_ascii_lowercase (base_of b)) ≡ folded_cmp a b
folded_cmp-apart a b apart =
    let folded : slice_cmp nat_cmp (map to_ascii_lowercase (base_of a)) (map to_ascii_lowercase (base_of b)) ≡ slice_cmp nat_cmp (base_of (map fold_case a)) (base_of (map fold_case b)) =
    λ i. slice_cmp nat_cmp (trans_base a i) (trans_base b i) in
    folded ∙ first_decides _ _ (λ e. apart (folded ∙ e))
  where
    trans_base : (a : List ℕ) → map to_ascii_lowercase (base_of a) ≡ base_of (map fold_case a)
    trans_base a = map-lowercase (base_of a) ∙ sym (fold_base a)

    first_decides : (x y : Ordering) → x ≢ Equal → x ≡ ordering_then x y
    first_decides Less y apart = refl
    first_decides Greater y apart = refl
    first_decides Equal y apart = absurd (apart refl)
