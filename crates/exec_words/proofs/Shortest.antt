-- The shortest text of an operand is no longer than any text that is read as it.
use Rattle.std.proofs.Common.{◌≡◌, ℕ, ◌+◌, ◌*◌, ◌-◌, ◌^◌, ◌≤◌, ◌<◌, Bool, true, false, cond, ◌&&◌, ◌==◌, nat_le, nat_lt, nat_eq, List, [], ◌∷◌, ◌++◌, codes, decimal, length, Option, Some, None, refl, sym, ◌∙◌, ap, subst, arith, length-append, length-take}
use Rattle.std.specs.Char.{digit_value}
use Rattle.std.specs.Cmp.Lexicographic.{pointwise, same_text}
use Rattle.std.specs.List.{list_all, fold}
use Rattle.std.specs.Option.{is_none, option_map}
use Rattle.std.specs.Str.Parse.{AllDigits, digits_value_after}
use Rattle.std.proofs.lemmas.Bool.{and_parts, leb-true, ltb-true, eqb-true}
use Rattle.std.proofs.lemmas.Bool.Decides.{nat_tests}
use Rattle.std.proofs.lemmas.Fmt.{length-decimal-le}
use Rattle.std.proofs.lemmas.Int.Digits.{digits_value-lt}
use Rattle.alto_words.specs.declared.wanted.Wanted.{Wanted}
use Rattle.alto_words.specs.declared.wanted.Wanted.TheVariants.{Exact, Newest}
use Rattle.alto_words.specs.Names.{is_digit, decimal_value, is_stored_name, name_in, name_by, stored_with, bare_in, with_dot, without_dot, before_mark, after_mark, version_in, versioned, last_byte, but_last, base_of, version_of, version_text}
use Rattle.alto_words.specs.Numbers.{number_in}
use Rattle.alto_words.specs.Wanted.{wanted_in, wanted_by}
use Rattle.alto_words.proofs.Names.{last_byte-front}
use Rattle.alto_words.proofs.Marks.{but_last-push, before_unmarked, unmarked_without}
use Rattle.alto_words.proofs.Versions.{base_is, version_is}
use Rattle.exec_words.specs.Typed.{short_name, wanted_text}

-- what a test that was passed gives
pub passed : {X : Type 0} (b : Bool) (x y : X) → cond b (Some x) None ≡ Some y → (b ≡ true) × (x ≡ y)
passed true x y e = (refl, cc)
passed false x y e = let f : None ≡ Some y = e in cc

-- ---- numbers
all_digits : (text : List ℕ) → list_all is_digit text ≡ true → AllDigits 10 text
all_digits [] all = tt
all_digits (c ∷ text) all = let p = and_parts (is_digit c) (list_all is_digit text) all in (digit c p.0, all_digits text p.1)
  where
    digit : (c : ℕ) → is_digit c ≡ true → digit_value c < 10
    digit c h = grind (arith, nat_tests)

value_is : (n : ℕ) (text : List ℕ) → list_all is_digit text ≡ true → fold (λ v c. v * 10 + (c - 48)) n text ≡ digits_value_after 10 n text
value_is n [] all = refl
value_is n (c ∷ text) all =
    let p = and_parts (is_digit c) (list_all is_digit text) all in
    value_is (n * 10 + (c - 48)) text p.1 ∙ ap (λ d. digits_value_after 10 (n * 10 + d) text) (digit c p.0)
  where
    digit : (c : ℕ) → is_digit c ≡ true → c - 48 ≡ digit_value c
    digit c h = grind (arith, nat_tests)

pub number_shortest : (text : List ℕ) (n : ℕ) → number_in text ≡ Some n → length (decimal n) ≤ length text
unfolding number_in
number_shortest text n e =
    let p = passed (nat_le 1 (length text) && nat_le (length text) 10 && list_all is_digit text && nat_lt (decimal_value text) 4294967296) (decimal_value text) n e in
    let a = and_parts (nat_le 1 (length text) && nat_le (length text) 10 && list_all is_digit text) (nat_lt (decimal_value text) 4294967296) p.0 in
    let b = and_parts (nat_le 1 (length text) && nat_le (length text) 10) (list_all is_digit text) a.0 in
    let d = and_parts (nat_le 1 (length text)) (nat_le (length text) 10) b.0 in
    let some = leb-true 1 (length text) d.0 in
    let fits = ltb-true (decimal_value text) 4294967296 a.1 in
    let value = value_is 0 text b.1 in
    let below = digits_value-lt 10 text (all_digits text b.1) in
    length-decimal-le (length text) n (omega (arith, some)) (subst (λ m. m < 10 ^ length text) (sym value ∙ p.1) below) (omega (arith, fits, p.1))

-- ---- names
short_of_dot : (text : List ℕ) → length (short_name (with_dot text)) ≤ length text
short_of_dot text = by (last_byte text == 46) refl
  where
    whole : (b : Bool) → length (cond b text (but_last text)) ≤ length text
    whole true = omega arith
    whole false = omega (arith, length-take (length text - 1) text)

    by : (b : Bool) → (last_byte text == 46) ≡ b → length (short_name (cond b text (text ++ 46 ∷ []))) ≤ length text
    by true e = whole (last_byte (but_last text) == 46)
    by false e =
        subst (λ t. length (cond (last_byte t == 46) (text ++ 46 ∷ []) t) ≤ length text) (sym (but_last-push text 46))
        (subst (λ b. length (cond b (text ++ 46 ∷ []) text) ≤ length text) (sym e) (omega arith))

-- a text without `!` that is read as a name
name_shortest : (text name : List ℕ) → after_mark text ≡ None → name_in text ≡ Some name → length (short_name name) ≤ length text
name_shortest text name none e =
    let p = passed (is_stored_name (with_dot text)) (with_dot text) name (sym (ap (name_by text) none) ∙ e) in
    subst (λ n. length (short_name n) ≤ length text) p.1 (short_of_dot text)

pub bare_shortest : (text name : List ℕ) → bare_in text ≡ Some name → length (short_name name) ≤ length text
bare_shortest text name e = by (after_mark text) refl e
  where
    by : (o : Option (List ℕ)) → after_mark text ≡ o → cond (is_none o) (name_in text) None ≡ Some name → length (short_name name) ≤ length text
    by None none f = name_shortest text name none f
    by (Some after) some f = let g : None ≡ Some name = f in cc

-- ---- names that state their versions
dot_again : (text : List ℕ) → with_dot text ≡ without_dot text ++ 46 ∷ []
dot_again text = by (last_byte text == 46) refl
  where
    by : (b : Bool) → (last_byte text == 46) ≡ b → cond b text (text ++ 46 ∷ []) ≡ cond b (but_last text) text ++ 46 ∷ []
    by true e =
        let front = last_byte-front text (eqb-true (last_byte text) 46 e) in
        front.1 ∙ ap (λ t. t ++ 46 ∷ []) (sym (ap but_last front.1 ∙ but_last-push front.0 46))
    by false e = refl

without_shorter : (text : List ℕ) → length (without_dot text) ≤ length text
without_shorter text = by (last_byte text == 46)
  where
    by : (b : Bool) → length (cond b (but_last text) text) ≤ length text
    by true = omega (arith, length-take (length text - 1) text)
    by false = omega arith

mark_length : (text after : List ℕ) → after_mark text ≡ Some after → length text ≡ length (before_mark text) + 1 + length after
mark_length [] after e = let f : None ≡ Some after = e in cc
mark_length (c ∷ text) after e = by (c == 33) e (mark_length text after)
  where
    by : (b : Bool) → cond b (Some text) (after_mark text) ≡ Some after → (after_mark text ≡ Some after → length text ≡ length (before_mark text) + 1 + length after)
        → length (c ∷ text) ≡ length (cond b [] (c ∷ before_mark text)) + 1 + length after
    by true f more = let g : text ≡ after = cc in omega (arith, ap length g)
    by false f more = omega (arith, more f)

-- the digits state a version that is written so
record States (digits : List ℕ) (n : ℕ) : Type 0 where
  pub most : n ≤ 65534
  pub is : digits ≡ decimal n

states : (digits : List ℕ) (n : ℕ) → version_in digits ≡ Some n → States digits n
states digits n e =
    let v = decimal_value digits in
    let p = passed (nat_le 1 v && nat_le v 65534 && pointwise nat_eq digits (decimal v)) v n e in
    let a = and_parts (nat_le 1 v && nat_le v 65534) (pointwise nat_eq digits (decimal v)) p.0 in
    let b = and_parts (nat_le 1 v) (nat_le v 65534) a.0 in
    record { most = omega (arith, leb-true v 65534 b.1, p.1); is = same_text digits (decimal v) (sym a.1) ∙ ap decimal p.1 }

exact_shortest : (text after name : List ℕ) → after_mark text ≡ Some after → name_in text ≡ Some name → length (wanted_text (Exact name)) ≤ length text
exact_shortest text after name mark e = by (version_in (without_dot after)) refl (sym (ap (name_by text) mark) ∙ e)
  where
    by : (o : Option ℕ) → version_in (without_dot after) ≡ o → stored_with (with_dot (before_mark text)) o ≡ Some name → length (wanted_text (Exact name)) ≤ length text
    by None none f = let g : None ≡ Some name = f in cc
    by (Some n) some f =
        let s = states (without_dot after) n some in
        let stem = without_dot (before_mark text) in
        let dotted = dot_again (before_mark text) in
        let unmarked = unmarked_without (before_mark text) (before_unmarked text) in
        let p = passed (is_stored_name (versioned (with_dot (before_mark text)) n)) (versioned (with_dot (before_mark text)) n) name f in
        let name_is : name ≡ stem ++ version_text n ++ (46 ∷ []) =
        sym p.1 ∙ ap (λ t. but_last t ++ version_text n ++ (46 ∷ [])) dotted ∙ ap (λ t. t ++ version_text n ++ (46 ∷ [])) (but_last-push stem 46) in
        let base : base_of name ≡ with_dot (before_mark text) = ap base_of name_is ∙ base_is stem n unmarked s.most ∙ sym dotted in
        let version : version_of name ≡ n = ap version_of name_is ∙ version_is stem n unmarked s.most in
        let front = short_of_dot (before_mark text) in
        let back = ap length s.is in
        let same : wanted_text (Exact name) ≡ short_name (with_dot (before_mark text)) ++ codes "!" ++ decimal n = (λ i. short_name (base i) ++ codes "!" ++ decimal (version i)) in
        omega (
          arith,
          ap length same,
          length-append (short_name (with_dot (before_mark text)) ++ codes "!") (decimal n),
          length-append (short_name (with_dot (before_mark text))) (codes "!"),
          front,
          back,
          without_shorter after,
          mark_length text after mark,
        )

pub wanted_shortest : (text : List ℕ) (wanted : Wanted) → wanted_in text ≡ Some wanted → length (wanted_text wanted) ≤ length text
wanted_shortest text wanted e = by (after_mark text) refl (name_in text) refl e
  where
    by : (o : Option (List ℕ)) → after_mark text ≡ o → (p : Option (List ℕ)) → name_in text ≡ p → option_map (wanted_by o) p ≡ Some wanted → length (wanted_text wanted) ≤ length text
    by o mark None none f = let g : None ≡ Some wanted = f in cc
    by None mark (Some name) is f = let g : Newest name ≡ wanted = cc in subst (λ w. length (wanted_text w) ≤ length text) g (name_shortest text name mark is)
    by (Some after) mark (Some name) is f = let g : Exact name ≡ wanted = cc in subst (λ w. length (wanted_text w) ≤ length text) g (exact_shortest text after name mark is)
