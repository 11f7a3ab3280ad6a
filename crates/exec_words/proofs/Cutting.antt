-- Texts that are cut at the first such byte, and the words of a text.
use Rattle.std.proofs.Common.{◌≡◌, ℕ, ◌+◌, ◌-◌, ◌<◌, ◌≤◌, Bool, true, false, cond, not, ◌||◌, ◌==◌, List, [], ◌∷◌, length, take, drop, Option, Some, None, position, refl, sym, ◌∙◌, ap, arith, nat_lt, length-drop, one-add, add-one}
use Rattle.std.specs.List.{position_or_len, list_any, onto_first}
use Rattle.std.proofs.lemmas.List.{take_all}
use Rattle.std.proofs.lemmas.Bool.{ltb-true, ltb-false}
use Rattle.exec_words.specs.Grammar.{is_byte, before, after, words_in}

-- a place that is found is that of the first
record Found (n size i : ℕ) : Type 0 where
  pub is : n ≡ i
  pub within : n < size

found : (n size i : ℕ) → Some i ≡ cond (nat_lt n size) (Some n) None → Found n size i
found n size i e = by (nat_lt n size) refl e
  where
    by : (b : Bool) → nat_lt n size ≡ b → Some i ≡ cond b (Some n) None → Found n size i
    by true t f = record { is = cc; within = ltb-true n size t }
    by false t f = let g : Some i ≡ None = f in cc

unfound : (n size : ℕ) → None ≡ cond (nat_lt n size) (Some n) None → size ≤ n
unfound n size e = by (nat_lt n size) refl e
  where
    by : (b : Bool) → nat_lt n size ≡ b → None ≡ cond b (Some n) None → size ≤ n
    by true t f = let g : None ≡ Some n = f in cc
    by false t f = ltb-false n size t

none_within : (n size : ℕ) → size ≤ n → None ≡ cond (nat_lt n size) (Some n) None
none_within n size past = by (nat_lt n size) refl
  where
    by : (b : Bool) → nat_lt n size ≡ b → None ≡ cond b (Some n) None
    by true t = absurd (omega (arith, ltb-true n size t, past))
    by false t = refl

module _ (byte : ℕ) where
  abbrev place : List ℕ → ℕ
  place text = position_or_len (is_byte byte) text

  -- what stands before the first such byte
  before_place : (text : List ℕ) → take (place text) text ≡ before byte text
  before_place [] = refl
  before_place (c ∷ text) =
      elim (is_byte byte c) as (λ b. take (cond (not b) (1 + place text) 0) (c ∷ text) ≡ cond b [] (c ∷ before byte text)) [
        | true ↦ refl
        | false ↦ rw one-add (ap (λ t. c ∷ t) (before_place text))
      ]

  -- and after it, if there is one
  after_place : (text : List ℕ) → place text < length text → Some (drop (place text + 1) text) ≡ after byte text
  after_place [] h = absurd (omega (arith, h))
  after_place (c ∷ text) h = by (is_byte byte c) h (after_place text)
    where
      by : (b : Bool) → cond (not b) (1 + place text) 0 < length (c ∷ text) → (place text < length text → Some (drop (place text + 1) text) ≡ after byte text)
          → Some (drop (cond (not b) (1 + place text) 0 + 1) (c ∷ text)) ≡ cond b (Some text) (after byte text)
      by true k more = refl
      by false k more = rw (one-add, add-one) (let m : place text < length text = omega (arith, k) in rw add-one at (more m))

  after_none : (text : List ℕ) → length text ≤ place text → None ≡ after byte text
  after_none [] h = refl
  after_none (c ∷ text) h = by (is_byte byte c) h (after_none text)
    where
      by : (b : Bool) → length (c ∷ text) ≤ cond (not b) (1 + place text) 0 → (length text ≤ place text → None ≡ after byte text) → None ≡ cond b (Some text) (after byte text)
      by true k more = absurd (omega (arith, k))
      by false k more = more (omega (arith, k))

  -- no such byte is found where there is none
  place_past : (text : List ℕ) → list_any (λ c. c == byte) text ≡ false → length text ≤ place text
  place_past [] none = omega arith
  place_past (c ∷ text) none = by (is_byte byte c) none (place_past text)
    where
      by : (b : Bool) → (b || list_any (λ x. x == byte) text) ≡ false → (list_any (λ x. x == byte) text ≡ false → length text ≤ place text) → length (c ∷ text) ≤ cond (not b) (1 + place text) 0
      by true k more = absurd (let no : true ≡ false = k in cc)
      by false k more = omega (arith, more k)

  pub none_found : (text : List ℕ) → list_any (λ c. c == byte) text ≡ false → None ≡ position (is_byte byte) text
  none_found text none = none_within (place text) (length text) (place_past text none)

  -- ---- where the first such byte is found, and where none is
  module _ (text : List ℕ) where
    pub before_found : (i : ℕ) → Some i ≡ position (is_byte byte) text → take i text ≡ before byte text
    before_found i e = ap (λ n. take n text) (sym (found _ _ _ e).is) ∙ before_place text

    pub after_found : (i : ℕ) → Some i ≡ position (is_byte byte) text → Some (take (length text - (i + 1)) (drop (i + 1) text)) ≡ after byte text
    after_found i e =
        let f = found (place text) (length text) i e in
        ap (λ t. Some t) (take_all (length text - (i + 1)) (drop (i + 1) text) (omega (arith, length-drop (i + 1) text)) ∙ ap (λ n. drop (n + 1) text) (sym f.is))
        ∙ after_place text f.within

    pub before_unfound : None ≡ position (is_byte byte) text → text ≡ before byte text
    before_unfound e = sym (take_all (place text) text (unfound (place text) (length text) e)) ∙ before_place text

    pub after_unfound : None ≡ position (is_byte byte) text → None ≡ after byte text
    after_unfound e = after_none text (unfound (place text) (length text) e)

-- ---- the words of a text: the first, and those of what follows
abbrev pub words_after : Option (List ℕ) → List (List ℕ)
words_after None = []
words_after (Some text) = words_in text

pub words_cut : (text : List ℕ) → words_in text ≡ before 32 text ∷ words_after (after 32 text)
words_cut [] = refl
words_cut (c ∷ text) =
    elim (is_byte 32 c) as (λ b. cond b ([] ∷ words_in text) (onto_first c (words_in text)) ≡ cond b [] (c ∷ before 32 text) ∷ words_after (cond b (Some text) (after 32 text))) [
      | true ↦ refl
      | false ↦ ap (onto_first c) (words_cut text)
    ]
