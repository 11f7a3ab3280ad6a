-- Names that are made of a stem and digits.
use Rattle.std.proofs.Common.{◌≡◌, ℕ, zero, suc, ◌+◌, ◌-◌, ◌^◌, ◌<◌, ◌≤◌, true, List, [], ◌∷◌, ◌++◌, length, take, min, codes, false, refl, ap, sym, ◌∙◌, arith, append_assoc, length-append, length-take}
use Rattle.std.specs.Fmt.{digits, decimal}
use Rattle.std.specs.List.{list_all}
use Rattle.std.proofs.lemmas.Bool.{and_from, and_parts}
use Rattle.std.proofs.lemmas.Bool.Decides.{nat_tests}
use Rattle.std.proofs.lemmas.Fmt.{digits_is_IsNumeral, decimal_is_IsNumeral, length-decimal-le}
use Rattle.std.proofs.lemmas.List.{take_min}
use Rattle.std.proofs.lemmas.List.Folds.{list_all-append}
use Rattle.alto_words.proofs.Digits.{length-octal-le}
use Rattle.alto_words.proofs.Names.{is_bare_name-stem}
use Rattle.alto_words.proofs.Marks.{characters-digits}
use Rattle.alto_words.proofs.Versions.{stored_parts, is_stored_name-bare, is_stored_name-made, version_short, version_most}
use Rattle.alto_words.specs.Names.{is_name_character, is_bare_name, is_stored_name, base_of, version_of, version_text, suffix_of, after_kept, suffixed, lost}

-- a front of name characters
characters-take : (n : ℕ) (cs : List ℕ) → list_all is_name_character cs ≡ true → list_all is_name_character (take n cs) ≡ true
characters-take zero cs all = refl
characters-take (suc n) [] all = refl
characters-take (suc n) (c ∷ cs) all =
    let parts = and_parts (is_name_character c) (list_all is_name_character cs) all in
    and_from (is_name_character c) (list_all is_name_character (take n cs)) parts.0 (characters-take n cs parts.1)

-- two parts of name characters and a `.`: a bare name
made : (front back : List ℕ) → 0 < length back → length front + length back ≤ 38 → list_all is_name_character front ≡ true → list_all is_name_character back ≡ true
    → is_bare_name (front ++ back ++ 46 ∷ []) ≡ true
made front back some fits all every =
    let long = length-append front back in
    let both = list_all-append is_name_character front back in
    is_bare_name-stem (front ++ back) ∙ grind (arith, nat_tests)

-- the name of a serial of 32 bits is a stored name
pub is_stored_name-lost : (serial : ℕ) → serial < 2 ^ 32 → is_stored_name (lost serial) ≡ true
unfolding lost
is_stored_name-lost serial fits =
    let numeral = (digits_is_IsNumeral 8 false (omega arith) (omega arith) serial (omega arith)).0 in
    let few = length-octal-le serial (omega arith) in
    is_stored_name-bare (codes "Lost" ++ digits 8 false serial ++ (46 ∷ [])) (made (codes "Lost") (digits 8 false serial) numeral.0 (omega arith) refl (characters-digits 8 (digits 8 false serial) (omega arith) numeral.1))

suffix_fits : (k : ℕ) → k ≤ 65535 → length (suffix_of k) ≤ 6
suffix_fits k most = omega (arith, length-decimal-le 5 k (omega arith) (omega arith) (omega arith))

suffix_characters : (k : ℕ) → k ≤ 65535 → list_all is_name_character (suffix_of k) ≡ true
suffix_characters k most = characters-digits 10 (decimal k) (omega arith) (decimal_is_IsNumeral k (omega arith)).0.1

-- a suffix and a version together
kept_fits : (name : List ℕ) (k : ℕ) → k ≤ 65535 → length (after_kept name k) ≤ 12
kept_fits name k most =
    omega (arith, length-append (suffix_of k) (version_text (version_of name)), suffix_fits k most, version_short (version_of name) (version_most name))

-- so is a stored name with a number in it
pub is_stored_name-suffixed : (name : List ℕ) (k : ℕ) → is_stored_name name ≡ true → k ≤ 65535 → is_stored_name (suffixed name k) ≡ true
unfolding suffixed
is_stored_name-suffixed name k stored most =
    let parts = stored_parts name stored in
    let v : List ℕ = version_text (version_of name) in
    let kept = 38 - length (after_kept name k) in
    let front : List ℕ = take kept (base_of name) in
    let few = suffix_fits k most in
    let both = length-append (suffix_of k) v in
    let all = length-append front (suffix_of k) in
    let short = length-take kept (base_of name) in
    let whole : list_all is_name_character (base_of name) ≡ true =
    ap (list_all is_name_character) parts.base ∙ list_all-append is_name_character parts.stem (46 ∷ []) ∙ and_from (list_all is_name_character parts.stem) true parts.characters refl in
    let named : list_all is_name_character (front ++ suffix_of k) ≡ true =
    list_all-append is_name_character front (suffix_of k)
    ∙ and_from (list_all is_name_character front) (list_all is_name_character (suffix_of k)) (characters-take kept (base_of name) whole) (suffix_characters k most) in
    let is : front ++ (suffix_of k ++ v) ++ (46 ∷ []) ≡ (front ++ suffix_of k) ++ v ++ (46 ∷ []) = ap (λ l. l ++ 46 ∷ []) (sym (append_assoc front (suffix_of k) v)) in
    ap is_stored_name is
    ∙ is_stored_name-made (front ++ suffix_of k) (version_of name) named parts.most parts.least (omega (arith, all)) (omega (arith, all, both, short, few, kept_fits name k most))

-- how long these names are
pub length-suffixed : (name : List ℕ) (k : ℕ) → k ≤ 65535 → length (suffixed name k) ≡ min (length (base_of name) + length (after_kept name k) + 1) 39
unfolding suffixed
length-suffixed name k most =
    let kept = 38 - length (after_kept name k) in
    let a = length-append (take kept (base_of name) ++ after_kept name k) (46 ∷ []) in
    let b = length-append (take kept (base_of name)) (after_kept name k) in
    let c = length-take kept (base_of name) in
    omega (arith, a, b, c, kept_fits name k most)

pub length-lost : (serial : ℕ) → serial < 2 ^ 32 → (6 ≤ length (lost serial)) × (length (lost serial) ≤ 16)
unfolding lost
length-lost serial fits =
    let numeral = (digits_is_IsNumeral 8 false (omega arith) (omega arith) serial (omega arith)).0 in
    let few = length-octal-le serial (omega arith) in
    let long = length-append (digits 8 false serial) (46 ∷ []) in
    (omega (arith, numeral.0), omega arith)

-- the parts of a lost name, one appended after the other
pub lost-parts : (none front whole name : List ℕ) (serial : ℕ) → none ≡ [] → front ≡ none ++ codes "Lost" → whole ≡ front ++ digits 8 false serial
    → name ≡ whole ++ 46 ∷ [] → name ≡ lost serial
unfolding lost
lost-parts none front whole name serial e f g h =
    h ∙ ap (λ t. t ++ 46 ∷ []) (g ∙ ap (λ t. t ++ digits 8 false serial) (f ∙ ap (λ t. t ++ codes "Lost") e))

-- the parts of a name with a number in it, appended one after the other: up to the digits
pub suffixed-front : (none kept marked digits : List ℕ) (old written mark : List ℕ) (n k : ℕ) → written ≡ decimal k → mark ≡ version_text (version_of old)
    → n ≡ min (length (base_of old)) (38 - (1 + length written + length mark)) → none ≡ [] → kept ≡ none ++ take n (base_of old) → marked ≡ kept ++ 36 ∷ [] → digits ≡ marked ++ written
    → digits ≡ take (38 - length (after_kept old k)) (base_of old) ++ suffix_of k
suffixed-front none kept marked digits old written mark n k is own cut e f g h =
    let room = 38 - length (after_kept old k) in
    let size = length-append (suffix_of k) (version_text (version_of old)) in
    let few : n ≡ min room (length (base_of old)) = omega (arith, cut, size, ap length is, ap length own) in
    let front : kept ≡ take room (base_of old) = f ∙ ap (λ t. t ++ take n (base_of old)) e ∙ ap (λ m. take m (base_of old)) few ∙ take_min room (base_of old) in
    h ∙ ap (λ t. t ++ written) (g ∙ ap (λ t. t ++ 36 ∷ []) front) ∙ append_assoc (take room (base_of old)) (36 ∷ []) written ∙ ap (λ ds. take room (base_of old) ++ 36 ∷ ds) is

-- and to the end
pub suffixed-parts : (digits whole name old mark : List ℕ) (k : ℕ) → digits ≡ take (38 - length (after_kept old k)) (base_of old) ++ suffix_of k → mark ≡ version_text (version_of old)
    → whole ≡ digits ++ mark → name ≡ whole ++ 46 ∷ [] → name ≡ suffixed old k
unfolding suffixed
suffixed-parts digits whole name old mark k front own h i =
    i ∙ ap (λ t. t ++ 46 ∷ []) (h ∙ (λ j. front j ++ own j) ∙ append_assoc (take (38 - length (after_kept old k)) (base_of old)) (suffix_of k) (version_text (version_of old)))

-- how long they are
pub suffixed-front_fits : (digits old : List ℕ) (k : ℕ) → k ≤ 65535 → digits ≡ take (38 - length (after_kept old k)) (base_of old) ++ suffix_of k → length digits + length (version_text (version_of old)) ≤ 38
suffixed-front_fits digits old k most front =
    let room = 38 - length (after_kept old k) in
    omega (arith, ap length front, length-append (take room (base_of old)) (suffix_of k), length-take room (base_of old), length-append (suffix_of k) (version_text (version_of old)), kept_fits old k most)

pub suffixed-room : (old : List ℕ) (k : ℕ) → k ≤ 65535 → 1 + length (decimal k) + length (version_text (version_of old)) ≤ 38
suffixed-room old k most = omega (arith, length-append (suffix_of k) (version_text (version_of old)), kept_fits old k most)
