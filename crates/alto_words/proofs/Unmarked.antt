-- Names without a version, read of their bytes.
use Rattle.std.proofs.Common.{◌≡◌, ℕ, ◌≤◌, true, false, ◌&&◌, nat_le, List, [], ◌∷◌, ◌++◌, length, None, refl, ap, sym, ◌∙◌, arith}
use Rattle.std.specs.List.{list_all}
use Rattle.std.proofs.lemmas.Bool.{and_from, and_parts}
use Rattle.std.proofs.lemmas.Bool.Decides.{nat_tests}
use Rattle.alto_words.specs.Names.{is_name_character, is_bare_name, is_stored_name, stored_in, after_mark}
use Rattle.alto_words.proofs.Names.{is_bare_name-stem}
use Rattle.alto_words.proofs.Marks.{no_mark}
use Rattle.alto_words.proofs.Versions.{is_stored_name-bare}
use Rattle.alto_words.proofs.Marked.{is_bare_name-unmarked}
use Rattle.alto_words.proofs.Parsed.{not_stored}

stem_characters : (stem : List ℕ) → list_all is_name_character (stem ++ 46 ∷ []) ≡ true → list_all is_name_character stem ≡ true
stem_characters [] all = refl
stem_characters (c ∷ stem) all =
    let parts = and_parts (is_name_character c) (list_all is_name_character (stem ++ 46 ∷ [])) all in
    and_from (is_name_character c) (list_all is_name_character stem) parts.0 (stem_characters stem parts.1)

-- 1 to 38 name characters and a `.` are a stored name
pub unmarked_stored : (bytes stem : List ℕ) → bytes ≡ stem ++ 46 ∷ [] → list_all is_name_character bytes ≡ true → 1 ≤ length stem → length stem ≤ 38 → is_stored_name bytes ≡ true
unmarked_stored bytes stem is all some fits =
    let characters = stem_characters stem (ap (list_all is_name_character) (sym is) ∙ all) in
    let bare : is_bare_name bytes ≡ true = ap is_bare_name is ∙ is_bare_name-stem stem ∙ grind (arith, nat_tests) in
    is_stored_name-bare bytes bare

-- with fewer or more they aren't
pub unmarked_unstored : (bytes stem : List ℕ) → bytes ≡ stem ++ 46 ∷ [] → list_all is_name_character bytes ≡ true → (nat_le 1 (length stem) && nat_le (length stem) 38) ≡ false → None ≡ stored_in bytes
unmarked_unstored bytes stem is all fails =
    not_stored bytes (λ stored.
    let bare : (nat_le 1 (length stem) && nat_le (length stem) 38 && list_all is_name_character stem) ≡ true =
    sym (is_bare_name-stem stem) ∙ ap is_bare_name (sym is) ∙ is_bare_name-unmarked bytes stored (no_mark bytes all) in
    grind (arith, nat_tests))

-- bytes of which one may not stand in a name, without a mark, aren't either
pub uncharactered : (bytes : List ℕ) → after_mark bytes ≡ None → list_all is_name_character bytes ≡ false → None ≡ stored_in bytes
uncharactered bytes none fails =
    not_stored bytes (λ stored. let bare = is_bare_name-unmarked bytes stored none in grind (arith, nat_tests))
