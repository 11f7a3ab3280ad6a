-- When bytes are a stored name.
use Rattle.std.proofs.Common.{◌≡◌, ◌≢◌, ℕ, ◌≤◌, true, false, ◌==◌, ◌&&◌, nat_le, List, [], ◌∷◌, ◌++◌, length, Option, Some, None, refl, ap, sym, ◌∙◌, arith}
use Rattle.std.specs.Borrow.{Bor}
use Rattle.std.specs.List.{list_all}
use Rattle.std.specs.Option.{MatchOption, unwrap_or}
use Rattle.std.proofs.lemmas.Bool.{eq-eqb, cond-true, cond-false, false_from_ne_true, eqb-true}
use Rattle.std.proofs.lemmas.Bool.Decides.{nat_tests}
use Rattle.std.proofs.lemmas.List.{length_push}
use Rattle.std.proofs.lemmas.List.Folds.{list_all-append}
use Rattle.alto_words.specs.Names.{is_name_character, is_bare_name, last_byte, with_dot}

pub last_byte-push : (text : List ℕ) (c : ℕ) → last_byte (text ++ c ∷ []) ≡ c
last_byte-push [] c = refl
last_byte-push (a ∷ []) c = refl
last_byte-push (a ∷ b ∷ text) c = last_byte-push (b ∷ text) c

-- a text that ends with this byte has something before it
pub last_byte-front : (text : List ℕ) → last_byte text ≡ 46 → (front : List ℕ) × (text ≡ front ++ 46 ∷ [])
last_byte-front [] last = absurd (omega arith)
last_byte-front (a ∷ []) last = ([], ap (λ c. c ∷ []) last)
last_byte-front (a ∷ b ∷ text) last = let rest = last_byte-front (b ∷ text) last in (a ∷ rest.0, ap (λ t. a ∷ t) rest.1)

-- a stem of 1 to 38 name characters and a `.` are a bare name, and nothing else
pub is_bare_name-stem : (stem : List ℕ)
    → is_bare_name (stem ++ 46 ∷ []) ≡ (nat_le 1 (length stem) && nat_le (length stem) 38 && list_all is_name_character stem)
is_bare_name-stem stem =
    let all = list_all-append is_name_character stem (46 ∷ []) in
    let long = length_push stem 46 in
    let last = last_byte-push stem 46 in
    grind (arith, nat_tests)

-- a text with its final `.` added or kept
pub with_dot-stem : (text : List ℕ) (r : Option (Bor (List ℕ))) (whole : Bor (List ℕ)) → whole.now ≡ text
    → MatchOption r ((front : List ℕ) → text ≢ front ++ 46 ∷ []) (λ x. text ≡ x.now ++ 46 ∷ []) → with_dot text ≡ (unwrap_or r whole).now ++ 46 ∷ []
with_dot-stem text None whole is none =
    let other : (last_byte text == 46) ≡ false = false_from_ne_true _ (λ e. let h = last_byte-front text (eqb-true (last_byte text) 46 e) in none h.0 h.1) in
    cond-false _ text (text ++ 46 ∷ []) other ∙ ap (λ t. t ++ 46 ∷ []) (sym is)
with_dot-stem text (Some x) whole is ends =
    let last : last_byte text ≡ 46 = ap last_byte ends ∙ last_byte-push x.now 46 in
    cond-true _ text (text ++ 46 ∷ []) (eq-eqb (last_byte text) 46 last) ∙ ends

-- a bare name ends with a `.`
pub last_byte-bare : (bytes : List ℕ) → is_bare_name bytes ≡ true → last_byte bytes ≡ 46
last_byte-bare bytes bare = grind (arith, nat_tests)

-- what stands before it
pub record Stem (name : List ℕ) : Type 0 where
  pub stem : List ℕ
  pub is : name ≡ stem ++ 46 ∷ []
  pub least : 1 ≤ length stem
  pub most : length stem ≤ 38
  pub characters : list_all is_name_character stem ≡ true

pub stem_of : (name : List ℕ) → is_bare_name name ≡ true → Stem name
stem_of name bare =
    let front = last_byte-front name (last_byte-bare name bare) in
    let e : (nat_le 1 (length front.0) && nat_le (length front.0) 38 && list_all is_name_character front.0) ≡ true = sym (is_bare_name-stem front.0) ∙ ap is_bare_name (sym front.1) ∙ bare in
    record { stem = front.0; is = front.1; least = grind (arith, nat_tests); most = grind (arith, nat_tests); characters = grind (arith, nat_tests) }
