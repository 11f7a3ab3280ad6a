-- Names as bare names with versions.
use Rattle.std.proofs.Common.{◌≡◌, ◌≢◌, ℕ, ◌+◌, ◌≤◌, Bool, true, false, cond, min, ◌==◌, ◌&&◌, ◌||◌, nat_le, nat_eq, List, [], ◌∷◌, ◌++◌, length, Option, Some, None, refl, ap, sym, ◌∙◌, arith, append-nil, append_assoc, length-append}
use Rattle.std.specs.Fmt.{decimal}
use Rattle.std.specs.List.{list_all}
use Rattle.std.specs.Cmp.Lexicographic.{pointwise, same_text, nat_list_eq_equiv}
use Rattle.std.proofs.lemmas.Bool.{and_from, and_parts, cond-true, cond-false, ne_eqb}
use Rattle.std.proofs.lemmas.Bool.Decides.{nat_tests}
use Rattle.std.proofs.lemmas.Fmt.{length-decimal-le, decimal_is_IsNumeral}
use Rattle.std.proofs.lemmas.List.{append_cancel_right}
use Rattle.std.proofs.lemmas.List.Folds.{list_all-append}
use Rattle.alto_words.specs.Names.{is_name_character, is_bare_name, is_stored_name, before_mark, after_mark, but_last, base_by, base_of, version_by, version_of, version_text, versioned, decimal_value}
use Rattle.alto_words.proofs.Names.{is_bare_name-stem, stem_of}
use Rattle.alto_words.proofs.Marks.{no_mark, unmarked_after, unmarked_before, before_unmarked, characters-digits, but_last-push}
use Rattle.alto_words.proofs.Reading.{decimal_value-decimal}

pub version_more : (n : ℕ) → n ≢ 1 → version_text n ≡ 33 ∷ decimal n
version_more n more = cond-false (n == 1) [] (33 ∷ decimal n) (ne_eqb n 1 more)

-- no base has a mark
pub unmarked_base : (name : List ℕ) → after_mark (base_of name) ≡ None
unmarked_base name = by (after_mark name) refl
  where
    by : (o : Option (List ℕ)) → after_mark name ≡ o → after_mark (base_by name o) ≡ None
    by None e = e
    by (Some after) e = unmarked_after (before_mark name) (46 ∷ []) (before_unmarked name)

-- the parts of bytes that are made of a stem and a version
module _ (stem : List ℕ) (n : ℕ) (unmarked : after_mark stem ≡ None) (fits : n ≤ 65534) where
  parted : (m : Bool) → (n == 1) ≡ m → (base_of (stem ++ version_text n ++ (46 ∷ [])) ≡ stem ++ 46 ∷ []) × (version_of (stem ++ version_text n ++ (46 ∷ [])) ≡ n)
  parted true e =
      let none : version_text n ≡ [] = cond-true (n == 1) [] (33 ∷ decimal n) e in
      let one : n ≡ 1 = grind (arith, nat_tests) in
      let is : after_mark (stem ++ 46 ∷ []) ≡ None = unmarked_after stem (46 ∷ []) unmarked in
      let turn : stem ++ version_text n ++ (46 ∷ []) ≡ stem ++ 46 ∷ [] = ap (λ v. stem ++ v ++ (46 ∷ [])) none ∙ ap (λ l. l ++ 46 ∷ []) (append-nil stem) in
      (ap base_of turn ∙ ap (base_by (stem ++ 46 ∷ [])) is, ap version_of turn ∙ ap version_by is ∙ sym one)
  parted false e =
      let some : version_text n ≡ 33 ∷ decimal n = cond-false (n == 1) [] (33 ∷ decimal n) e in
      let is : after_mark (stem ++ 33 ∷ (decimal n ++ 46 ∷ [])) ≡ Some (decimal n ++ 46 ∷ []) = unmarked_after stem (33 ∷ (decimal n ++ 46 ∷ [])) unmarked in
      let front : before_mark (stem ++ 33 ∷ (decimal n ++ 46 ∷ [])) ≡ stem = unmarked_before stem (33 ∷ (decimal n ++ 46 ∷ [])) unmarked ∙ append-nil stem in
      let value : decimal_value (but_last (decimal n ++ 46 ∷ [])) ≡ n = ap decimal_value (but_last-push (decimal n) 46) ∙ decimal_value-decimal n (omega arith) in
      let turn : stem ++ version_text n ++ (46 ∷ []) ≡ stem ++ 33 ∷ (decimal n ++ 46 ∷ []) = ap (λ v. stem ++ v ++ (46 ∷ [])) some ∙ append_assoc stem (33 ∷ decimal n) (46 ∷ []) in (
        ap base_of turn ∙ ap (base_by (stem ++ 33 ∷ (decimal n ++ 46 ∷ []))) is ∙ ap (λ t. t ++ 46 ∷ []) front,
        ap version_of turn ∙ ap version_by is ∙ ap (min 65534) value ∙ omega arith,
      )

  pub base_is : base_of (stem ++ version_text n ++ (46 ∷ [])) ≡ stem ++ 46 ∷ []
  base_is = (parted (n == 1) refl).0

  pub version_is : version_of (stem ++ version_text n ++ (46 ∷ [])) ≡ n
  version_is = (parted (n == 1) refl).1

-- such bytes are alike only where their parts are
pub parts_alike : (s t : List ℕ) (m n : ℕ) → after_mark s ≡ None → after_mark t ≡ None → m ≤ 65534 → n ≤ 65534 → s ++ version_text m ++ (46 ∷ []) ≡ t ++ version_text n ++ (46 ∷ []) → (s ≡ t) × (m ≡ n)
parts_alike s t m n one other few fits e = (
  append_cancel_right s t (46 ∷ []) (sym (base_is s m one few) ∙ ap base_of e ∙ base_is t n other fits),
  sym (version_is s m one few) ∙ ap version_of e ∙ version_is t n other fits,
)

module _ (stem : List ℕ) (n : ℕ) (all : list_all is_name_character stem ≡ true) (fits : n ≤ 65534) where
  -- it is a stored name, where it is short enough
  pub is_stored_name-made : 1 ≤ n → 1 ≤ length stem → length stem + length (version_text n) ≤ 38 → is_stored_name (stem ++ version_text n ++ (46 ∷ [])) ≡ true
  unfolding is_stored_name
  is_stored_name-made least some short =
      let name : List ℕ = stem ++ version_text n ++ (46 ∷ []) in
      let long = length-append (stem ++ version_text n) (46 ∷ []) in
      let rest = length-append stem (version_text n) in
      let bare : is_bare_name (base_of name) ≡ true = ap is_bare_name (base_is stem n (no_mark stem all) fits) ∙ is_bare_name-stem stem ∙ grind (arith, nat_tests) in
      let lower : nat_le 1 (version_of name) ≡ true = ap (nat_le 1) (version_is stem n (no_mark stem all) fits) ∙ grind (arith, nat_tests) in
      let upper : nat_le (version_of name) 65534 ≡ true = ap (λ v. nat_le v 65534) (version_is stem n (no_mark stem all) fits) ∙ grind (arith, nat_tests) in
      let again : versioned (base_of name) (version_of name) ≡ name = (λ i. versioned (base_is stem n (no_mark stem all) fits i) (version_is stem n (no_mark stem all) fits i)) ∙ ap (λ s. s ++ version_text n ++ (46 ∷ [])) (but_last-push stem 46) in
      let same : pointwise nat_eq name (versioned (base_of name) (version_of name)) ≡ true = ap (pointwise nat_eq name) again ∙ nat_list_eq_equiv.refl name in
      let size : nat_le (length name) 39 ≡ true = grind (arith, nat_tests) in
      (λ i. size i && bare i && lower i && upper i && same i)

-- ---- stored names
-- A stored name is a stem, a version and a `.`.
pub record StoredParts (name : List ℕ) : Type 0 where
  pub stem : List ℕ
  pub is : name ≡ stem ++ version_text (version_of name) ++ (46 ∷ [])
  pub base : base_of name ≡ stem ++ 46 ∷ []
  pub some : 1 ≤ length stem
  pub characters : list_all is_name_character stem ≡ true
  pub least : 1 ≤ version_of name
  pub most : version_of name ≤ 65534
  pub fits : length name ≤ 39

pub stored_parts : (name : List ℕ) → is_stored_name name ≡ true → StoredParts name
unfolding is_stored_name
stored_parts name stored =
    let a = and_parts _ (pointwise nat_eq name (versioned (base_of name) (version_of name))) stored in
    let b = and_parts _ (nat_le (version_of name) 65534) a.0 in
    let c = and_parts _ (nat_le 1 (version_of name)) b.0 in
    let d = and_parts (nat_le (length name) 39) (is_bare_name (base_of name)) c.0 in
    let s = stem_of (base_of name) d.1 in
    let size = d.0 in
    let lower = c.1 in
    let upper = b.1 in
    record {
      stem = s.stem;
      is = same_text name (versioned (base_of name) (version_of name)) (sym a.1) ∙ ap (λ l. l ++ version_text (version_of name) ++ (46 ∷ [])) (ap but_last s.is ∙ but_last-push s.stem 46);
      base = s.is;
      some = s.least;
      characters = s.characters;
      least = grind (arith, nat_tests);
      most = grind (arith, nat_tests);
      fits = grind (arith, nat_tests);
    }

-- a bare name is stored
pub is_stored_name-bare : (name : List ℕ) → is_bare_name name ≡ true → is_stored_name name ≡ true
is_stored_name-bare name bare =
    let s = stem_of name bare in
    ap is_stored_name (s.is ∙ ap (λ l. l ++ 46 ∷ []) (sym (append-nil s.stem))) ∙ is_stored_name-made s.stem 1 s.characters (omega arith) (omega arith) s.least (let m = s.most in omega arith)

-- it has no mark
pub bare_unmarked : (name : List ℕ) → is_bare_name name ≡ true → after_mark name ≡ None
bare_unmarked name bare =
    let s = stem_of name bare in
    ap after_mark s.is ∙ no_mark (s.stem ++ 46 ∷ []) (list_all-append is_name_character s.stem (46 ∷ []) ∙ and_from (list_all is_name_character s.stem) true s.characters refl)

-- a version takes at most six characters
pub version_short : (n : ℕ) → n ≤ 65534 → length (version_text n) ≤ 6
version_short n fits = by (n == 1)
  where
    by : (b : Bool) → length (cond b [] (33 ∷ decimal n)) ≤ 6
    by true = omega arith
    by false = omega (arith, length-decimal-le 5 n (omega arith) (omega arith) (omega arith))

-- no bytes have a greater one
pub version_most : (name : List ℕ) → version_of name ≤ 65534
version_most name = by (after_mark name)
  where
    by : (o : Option (List ℕ)) → version_by o ≤ 65534
    by None = omega arith
    by (Some after) = omega arith

-- each character of a stored name is a name character, or the mark
abbrev pub is_stored_character : ℕ → Bool
is_stored_character c = is_name_character c || c == 33

stored_character : (text : List ℕ) → list_all is_name_character text ≡ true → list_all is_stored_character text ≡ true
stored_character [] all = refl
stored_character (c ∷ text) all =
    let parts = and_parts (is_name_character c) (list_all is_name_character text) all in
    and_from (is_stored_character c) (list_all is_stored_character text) (ap (λ b. b || (c == 33)) parts.0) (stored_character text parts.1)

digits_stored : (n : ℕ) → n ≤ 65534 → list_all is_stored_character (version_text n) ≡ true
digits_stored n fits = by (n == 1)
  where
    by : (b : Bool) → list_all is_stored_character (cond b [] (33 ∷ decimal n)) ≡ true
    by true = refl
    by false = stored_character (decimal n) (characters-digits 10 (decimal n) (omega arith) (decimal_is_IsNumeral n (omega arith)).0.1)

pub is_stored_name-characters : (name : List ℕ) → is_stored_name name ≡ true → list_all is_stored_character name ≡ true
is_stored_name-characters name stored =
    let parts = stored_parts name stored in
    let v : List ℕ = version_text (version_of name) in
    ap (list_all is_stored_character) parts.is
    ∙ list_all-append is_stored_character (parts.stem ++ v) (46 ∷ [])
    ∙ and_from (list_all is_stored_character (parts.stem ++ v)) true
    (list_all-append is_stored_character parts.stem v ∙ and_from (list_all is_stored_character parts.stem) (list_all is_stored_character v) (stored_character parts.stem parts.characters) (digits_stored (version_of name) parts.most))
    refl

pub is_stored_name-fits : (name : List ℕ) → is_stored_name name ≡ true → length name ≤ 39
is_stored_name-fits name stored = (stored_parts name stored).fits
