-- Texts that lack a byte: they aren't cut at it.
use Rattle.std.proofs.Common.{◌≡◌, ℕ, Bool, true, false, not, ◌==◌, List, [], ◌∷◌, ◌++◌, Some, None, refl, sym, ◌∙◌, ap}
use Rattle.std.specs.List.{list_all, onto_first}
use Rattle.std.proofs.lemmas.Bool.{and_parts, and_from, cond-true, cond-false, eq-eqb, eqb-true}
use Rattle.std.proofs.lemmas.List.Folds.{list_all-append}
use Rattle.alto_words.specs.Names.{is_name_character}
use Rattle.exec_words.specs.Grammar.{is_byte, before, after, words_in}

abbrev pub Lacks : ℕ → List ℕ → Type 0
Lacks byte text = list_all (λ c. not (is_byte byte c)) text ≡ true

pub lacks_both : (byte : ℕ) (a b : List ℕ) → Lacks byte a → Lacks byte b → Lacks byte (a ++ b)
lacks_both byte a b front back = list_all-append (λ c. not (is_byte byte c)) a b ∙ and_from (list_all (λ c. not (is_byte byte c)) a) (list_all (λ c. not (is_byte byte c)) b) front back

-- name characters are no other byte
other_character : (byte c : ℕ) → is_name_character byte ≡ false → is_name_character c ≡ true → not (c == byte) ≡ true
other_character byte c none some = by (c == byte) refl
  where
    by : (b : Bool) → (c == byte) ≡ b → not b ≡ true
    by true e = let f : false ≡ true = sym none ∙ ap is_name_character (sym (eqb-true c byte e)) ∙ some in cc
    by false e = refl

pub characters_lack : (byte : ℕ) (text : List ℕ) → is_name_character byte ≡ false → list_all is_name_character text ≡ true → Lacks byte text
characters_lack byte [] none all = refl
characters_lack byte (c ∷ text) none all =
    let parts = and_parts (is_name_character c) (list_all is_name_character text) all in
    and_from (not (c == byte)) (list_all (λ d. not (is_byte byte d)) text) (other_character byte c none parts.0) (characters_lack byte text none parts.1)

not_true : (b : Bool) → not b ≡ true → b ≡ false
not_true true e = sym e
not_true false e = refl

-- ---- such a text isn't cut, and is cut where the byte stands after it
module _ (byte : ℕ) where
  pub lacks_after : (text : List ℕ) → Lacks byte text → after byte text ≡ None
  lacks_after [] all = refl
  lacks_after (c ∷ text) all =
      let parts = and_parts (not (is_byte byte c)) (list_all (λ d. not (is_byte byte d)) text) all in
      cond-false (is_byte byte c) (Some text) (after byte text) (not_true (is_byte byte c) parts.0) ∙ lacks_after text parts.1

  pub cut_before : (text rest : List ℕ) → Lacks byte text → before byte (text ++ byte ∷ rest) ≡ text
  cut_before [] rest all = cond-true (is_byte byte byte) [] (byte ∷ before byte rest) (eq-eqb byte byte refl)
  cut_before (c ∷ text) rest all =
      let parts = and_parts (not (is_byte byte c)) (list_all (λ d. not (is_byte byte d)) text) all in
      cond-false (is_byte byte c) [] (c ∷ before byte (text ++ byte ∷ rest)) (not_true (is_byte byte c) parts.0) ∙ ap (λ t. c ∷ t) (cut_before text rest parts.1)

  pub cut_after : (text rest : List ℕ) → Lacks byte text → after byte (text ++ byte ∷ rest) ≡ Some rest
  cut_after [] rest all = cond-true (is_byte byte byte) (Some rest) (after byte rest) (eq-eqb byte byte refl)
  cut_after (c ∷ text) rest all =
      let parts = and_parts (not (is_byte byte c)) (list_all (λ d. not (is_byte byte d)) text) all in
      cond-false (is_byte byte c) (Some (text ++ byte ∷ rest)) (after byte (text ++ byte ∷ rest)) (not_true (is_byte byte c) parts.0) ∙ cut_after text rest parts.1

-- ---- words
pub words_one : (text : List ℕ) → Lacks 32 text → words_in text ≡ text ∷ []
words_one [] all = refl
words_one (c ∷ text) all =
    let parts = and_parts (not (is_byte 32 c)) (list_all (λ d. not (is_byte 32 d)) text) all in
    cond-false (is_byte 32 c) ([] ∷ words_in text) (onto_first c (words_in text)) (not_true (is_byte 32 c) parts.0) ∙ ap (onto_first c) (words_one text parts.1)

pub words_more : (text rest : List ℕ) → Lacks 32 text → words_in (text ++ 32 ∷ rest) ≡ text ∷ words_in rest
words_more [] rest all = refl
words_more (c ∷ text) rest all =
    let parts = and_parts (not (is_byte 32 c)) (list_all (λ d. not (is_byte 32 d)) text) all in
    cond-false (is_byte 32 c) ([] ∷ words_in (text ++ 32 ∷ rest)) (onto_first c (words_in (text ++ 32 ∷ rest))) (not_true (is_byte 32 c) parts.0)
    ∙ ap (onto_first c) (words_more text rest parts.1)
