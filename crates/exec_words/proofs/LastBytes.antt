-- Bytes in hex that end a line: no space is among them, so all of a text is read as they are, or none of its words.
use Rattle.std.proofs.Common.{◌≡◌, ◌⊎◌, inl, inr, ℕ, ◌%◌, Bool, true, false, cond, not, ◌&&◌, ◌==◌, List, [], ◌∷◌, length, Option, Some, None, refl, sym, ◌∙◌, ap}
use Rattle.std.specs.Char.{is_ascii_hexdigit}
use Rattle.std.specs.List.{list_all}
use Rattle.std.specs.Option.{is_some}
use Rattle.std.proofs.lemmas.Bool.{and_parts, and_from, eqb-true, false≢true}
use Rattle.alto_words.specs.Numbers.{bytes_in_hex, hex_pairs}
use Rattle.alto_words.proofs.Hex.{pairs_odd, pairs_refused}
use Rattle.exec_words.specs.declared.line.Line.{Line}
use Rattle.exec_words.specs.Grammar.{is_byte, before, after, words_in, at_most, bytes_up_to, both, two, three}
use Rattle.exec_words.proofs.Cutting.{words_after, words_cut}
use Rattle.exec_words.proofs.Plain.{Lacks, lacks_after}

no_space : (c : ℕ) → is_ascii_hexdigit c ≡ true → not (is_byte 32 c) ≡ true
no_space c digit = by (c == 32) refl
  where
    by : (b : Bool) → (c == 32) ≡ b → not b ≡ true
    by true e = let f : true ≡ false = sym digit ∙ ap is_ascii_hexdigit (eqb-true c 32 e) in cc
    by false e = refl

digits_lack : (text : List ℕ) → list_all is_ascii_hexdigit text ≡ true → Lacks 32 text
digits_lack [] all = refl
digits_lack (c ∷ text) all =
    let parts = and_parts (is_ascii_hexdigit c) (list_all is_ascii_hexdigit text) all in
    and_from (not (is_byte 32 c)) (list_all (λ d. not (is_byte 32 d)) text) (no_space c parts.0) (digits_lack text parts.1)

-- what is read in pairs is digits alone
pairs_are_digits : (text : List ℕ) → is_some (hex_pairs text) ≡ true → list_all is_ascii_hexdigit text ≡ true
pairs_are_digits text some = by (length text % 2 == 0) (list_all is_ascii_hexdigit text) refl refl
  where
    by : (even all : Bool) → (length text % 2 == 0) ≡ even → list_all is_ascii_hexdigit text ≡ all → all ≡ true
    by even true is e = refl
    by true false is e = absurd (false≢true (ap is_some (sym (pairs_refused text (eqb-true (length text % 2) 0 is) e)) ∙ some))
    by false false is e = absurd (false≢true (ap is_some (sym (pairs_odd text is)) ∙ some))

hex_lacks : (text bytes : List ℕ) → bytes_in_hex text ≡ Some bytes → Lacks 32 text
unfolding bytes_in_hex
hex_lacks [] bytes e = refl
hex_lacks (a ∷ []) bytes e = by (a == 45) refl e
  where
    by : (b : Bool) → (a == 45) ≡ b → cond b (Some []) None ≡ Some bytes → Lacks 32 (a ∷ [])
    by true is f = ap (λ c. not (is_byte 32 c) && true) (eqb-true a 45 is)
    by false is f = let g : None ≡ Some bytes = f in cc
hex_lacks (a ∷ b ∷ text) bytes e = digits_lack (a ∷ b ∷ text) (pairs_are_digits (a ∷ b ∷ text) (ap is_some e))

spaced : (text rest : List ℕ) → after 32 text ≡ Some rest → bytes_in_hex text ≡ None
spaced text rest cut = by (bytes_in_hex text) refl
  where
    by : (o : Option (List ℕ)) → bytes_in_hex text ≡ o → o ≡ None
    by None e = refl
    by (Some bytes) e = let f : None ≡ Some rest = sym (lacks_after 32 text (hex_lacks text bytes e)) ∙ cut in cc

whole : (text : List ℕ) → after 32 text ≡ None → before 32 text ≡ text
whole [] e = refl
whole (c ∷ text) e = by (is_byte 32 c) e (whole text)
  where
    by : (b : Bool) → cond b (Some text) (after 32 text) ≡ None → (after 32 text ≡ None → before 32 text ≡ text) → cond b [] (c ∷ before 32 text) ≡ c ∷ text
    by true f more = let g : Some text ≡ None = f in cc
    by false f more = ap (λ t. c ∷ t) (more f)

-- a text of two words or more is no bytes
record IsMore (text : List ℕ) : Type 0 where
  pub first : List ℕ
  pub second : List ℕ
  pub more : List (List ℕ)
  pub words : words_in text ≡ first ∷ second ∷ more
  pub none : bytes_in_hex text ≡ None

one_or_more : (text : List ℕ) → (words_in text ≡ text ∷ []) ⊎ IsMore text
one_or_more text = by (after 32 text) refl
  where
    by : (o : Option (List ℕ)) → after 32 text ≡ o → (words_in text ≡ text ∷ []) ⊎ IsMore text
    by None e = inl (words_cut text ∙ (λ i. whole text e i ∷ words_after (e i)))
    by (Some rest) e =
        inr
        (record {
          first = before 32 text;
          second = before 32 rest;
          more = words_after (after 32 rest);
          words = words_cut text ∙ ap (λ o. before 32 text ∷ words_after o) e ∙ ap (λ ws. before 32 text ∷ ws) (words_cut rest);
          none = spaced text rest e;
        })

both_none : {X Y Z : Type 0} (f : X → Y → Z) (o : Option X) → both f o None ≡ None
both_none f None = refl
both_none f (Some x) = refl

pub last_of_two : {X : Type 0} (x : List ℕ → Option X) (most : ℕ) (l : X → List ℕ → Line) (first text : List ℕ) → both l (x first) (bytes_up_to most text) ≡ two x (bytes_up_to most) l (first ∷ words_in text)
last_of_two x most l first text =
    elim (one_or_more text) [
      | inl e ↦ sym (ap (λ ws. two x (bytes_up_to most) l (first ∷ ws)) e)
      | inr m ↦ ap (λ o. both l (x first) (at_most most o)) m.none ∙ both_none l (x first) ∙ sym (ap (λ ws. two x (bytes_up_to most) l (first ∷ ws)) m.words)
    ]

pub last_of_three : {X Y : Type 0} (x : List ℕ → Option X) (y : List ℕ → Option Y) (most : ℕ) (l : X → Y → List ℕ → Line) (first second text : List ℕ)
    → both (λ f k. f k) (both l (x first) (y second)) (bytes_up_to most text) ≡ three x y (bytes_up_to most) l (first ∷ second ∷ words_in text)
last_of_three x y most l first second text =
    elim (one_or_more text) [
      | inl e ↦ sym (ap (λ ws. three x y (bytes_up_to most) l (first ∷ second ∷ ws)) e)
      | inr m ↦ ap (λ o. both (λ f k. f k) (both l (x first) (y second)) (at_most most o)) m.none ∙ both_none (λ f k. f k) (both l (x first) (y second))
          ∙ sym (ap (λ ws. three x y (bytes_up_to most) l (first ∷ second ∷ ws)) m.words)
    ]
